-- Reading a stretch from the left.
use Rattle.std.specs.Prelude.{ℕ, suc, Bool, true, false, ◌||◌, List, [], ◌∷◌, length, Option, Some, None, if◌then◌else◌, codes}
use Rattle.redl_grammar.specs.declared.section.Section.{Section}
use Rattle.redl_grammar.specs.declared.section.Section.TheVariants.{BeforeRoot, InElement, AfterRoot}
use Rattle.redl_grammar.specs.Characters.{is_space}
use Rattle.redl_reading.specs.Lists.{behind, begins, past, front, after, before, is_filled, is_other}
use Rattle.redl_reading.specs.Steps.{◌>>=◌, or_same, Turn, done, turns, go_on}
use Rattle.redl_grammar.specs.Stretches.{is_run, is_xml, is_version, is_encoding, is_standalone, byte_order_mark, begins_item}
use Rattle.redl_grammar.specs.Pieces.{Piece, stretch}
use Rattle.redl_grammar.specs.ScanNames.{word_at}
use Rattle.redl_grammar.specs.ScanTags.{equated_at}

-- ---- items

-- after the `<!--`
unfoldable pub comment_at : List ℕ → Option (List ℕ)
comment_at bs = do
  more ← past (codes "--") bs
  behind (codes ">") more

abbrev pub begins_with_space : List ℕ → Bool
begins_with_space [] = false
begins_with_space (b ∷ bs) = is_space b

-- after an instruction's name
unfoldable pub instruction_end : List ℕ → Option (List ℕ)
instruction_end bs = if begins (codes "?>") bs || begins_with_space bs then past (codes "?>") bs else None

-- after the `<?`
unfoldable pub instruction_at : List ℕ → Option (List ℕ)
instruction_at bs = do
  name ← word_at true bs
  if is_xml name.0 then None else instruction_end name.1

-- after the `<![CDATA[`
abbrev pub cdata_at : Section → List ℕ → Option (List ℕ)
cdata_at InElement bs = past (codes "]]>") bs
cdata_at BeforeRoot bs = None
cdata_at AfterRoot bs = None

abbrev pub opened_at : Section → Option (List ℕ) → Option (List ℕ) → Option (List ℕ) → Option (List ℕ)
opened_at place (Some comment) instruction cdata = comment_at comment
opened_at place None (Some instruction) cdata = instruction_at instruction
opened_at place None None (Some cdata) = cdata_at place cdata
opened_at place None None None = None

unfoldable pub item_at : Section → List ℕ → Option (List ℕ)
item_at place bs = opened_at place (behind (codes "<!--") bs) (behind (codes "<?") bs) (behind (codes "<![CDATA[") bs)

-- ---- the head of a text

-- the value of a setting with this word, and what follows it
unfoldable pub setting_at : List ℕ → List ℕ → Option (List ℕ × List ℕ)
setting_at word bs =
    if is_filled (front is_space bs) then behind word (after is_space bs) >>= equated_at else None

-- an optional setting
abbrev pub optional_after : (List ℕ → Bool) → List ℕ → Option (List ℕ × List ℕ) → Option (List ℕ)
optional_after fits bs None = Some bs
optional_after fits bs (Some x) = if fits x.0 then Some x.1 else None

unfoldable pub version_at : List ℕ → Option (List ℕ)
version_at bs = do
  x ← setting_at (codes "version") bs
  if is_version x.0 then Some x.1 else None

unfoldable pub declaration_at : List ℕ → Option (List ℕ)
declaration_at bs = do
  more ← behind (codes "<?xml") bs
  version ← version_at more
  encoding ← optional_after is_encoding version (setting_at (codes "encoding") version)
  standalone ← optional_after is_standalone encoding (setting_at (codes "standalone") encoding)
  behind (codes "?>") (after is_space standalone)

unfoldable pub after_mark : List ℕ → List ℕ
after_mark bs = or_same (behind byte_order_mark bs) bs

unfoldable pub after_declaration : List ℕ → List ℕ
after_declaration bs = or_same (declaration_at bs) bs

-- what follows the head
abbrev pub after_head : Section → List ℕ → List ℕ
after_head BeforeRoot bs = after_declaration (after_mark bs)
after_head InElement bs = bs
after_head AfterRoot bs = bs

-- ---- stretches

unfoldable pub stretch_step : Section → List ℕ → Turn (List ℕ) (List ℕ)
stretch_step place bs =
    if is_run place (front (is_other 60) bs) then
    (if begins_item (after (is_other 60) bs) then go_on (item_at place (after (is_other 60) bs)) else done (Some (after (is_other 60) bs)))
    else done None

-- what follows runs and items
unfoldable pub items_end : Section → List ℕ → Option (List ℕ)
items_end place bs = turns (stretch_step place) (suc (length bs)) bs

unfoldable pub stretch_at : Section → List ℕ → Option (Piece × List ℕ)
stretch_at place bs = do
  rest ← items_end place (after_head place bs)
  if is_filled (before bs rest) then Some (stretch (before bs rest), rest) else None
