-- Stretches without a tag, by their place: before the root, in an element, and after the root (XML 1.0, productions 1, 14 to 28, 32, 43 and 80).
use Rattle.std.specs.Prelude.{◌≡◌, ◌≢◌, ℕ, Bool, true, false, ◌==◌, ◌&&◌, ◌||◌, List, [], ◌∷◌, ◌++◌, Option, Some, None, codes, not}
use Rattle.std.specs.List.{list_all, AllByRecursion}
use Rattle.std.specs.Char.{is_ascii_digit}
use Rattle.std.specs.Str.{str_eq_ignore_ascii_case, bytes_eq}
use Rattle.redl_grammar.specs.declared.section.Section.{Section}
use Rattle.redl_grammar.specs.declared.section.Section.TheVariants.{BeforeRoot, InElement, AfterRoot}
use Rattle.redl_grammar.specs.Characters.{is_space}
use Rattle.redl_reading.specs.Lists.{begins, behind, lacks, is_other, is_filled}
use Rattle.redl_grammar.specs.Names.{IsWord}
use Rattle.redl_grammar.specs.References.{has_references}
use Rattle.redl_grammar.specs.Tails.{IsSpace, Attribute, attribute_then, IsQuote}

-- ---- runs

-- in an element a run is character data and references, without `]]>` (productions 14 and 67); elsewhere it is white space
abbrev pub is_run : Section → List ℕ → Bool
is_run InElement bs = has_references bs && lacks (codes "]]>") bs
is_run BeforeRoot bs = list_all is_space bs
is_run AfterRoot bs = list_all is_space bs

pub record IsRun (place : Section) (bs : List ℕ) : Type 0 where
  pub no_tag : list_all (is_other 60) bs ≡ true
  pub allowed : is_run place bs ≡ true

-- ---- comments, instructions and CDATA

abbrev pub begins_other : ℕ → List ℕ → Bool
begins_other b [] = false
begins_other b (c ∷ cs) = not (c == b)

-- a comment's text, production 15: each `-` in it is followed by a character other than `-`
abbrev pub is_comment : List ℕ → Bool
is_comment [] = true
is_comment (b ∷ bs) = (not (b == 45) || begins_other 45 bs) && is_comment bs

abbrev pub is_xml : List ℕ → Bool
is_xml name = str_eq_ignore_ascii_case name (codes "xml")

-- an instruction's text after its name, production 16: empty, or white space and then anything
abbrev pub is_apart : List ℕ → Bool
is_apart [] = true
is_apart (b ∷ bs) = is_space b

-- the name is not `xml` in letters of any case (production 17), and the text has no `?>`
pub record IsInstruction (target text : List ℕ) : Type 0 where
  pub name : IsWord true target
  pub not_xml : is_xml target ≡ false
  pub apart : is_apart text ≡ true
  pub no_end : lacks (codes "?>") text ≡ true

-- Comment, PI and CDSect, productions 15 to 21. An instruction has a name and the text after it.
pub data Item : Type 0 where
  comment : List ℕ → Item
  instruction : List ℕ → List ℕ → Item
  cdata : List ℕ → Item

-- the text of an item, followed by the rest
abbrev pub item_then : Item → List ℕ → List ℕ
item_then (comment text) rest = codes "<!--" ++ (text ++ (codes "-->" ++ rest))
item_then (instruction name text) rest = codes "<?" ++ (name ++ (text ++ (codes "?>" ++ rest)))
item_then (cdata text) rest = codes "<![CDATA[" ++ (text ++ (codes "]]>" ++ rest))

-- CDATA is allowed only in elements
abbrev pub IsItem : Section → Item → Type 0
IsItem place (comment text) = is_comment text ≡ true
IsItem place (instruction name text) = IsInstruction name text
IsItem place (cdata text) = (place ≡ InElement) × (lacks (codes "]]>") text ≡ true)

-- the text of items, each followed by a run, and then the rest
abbrev pub items_then : List (Item × List ℕ) → List ℕ → List ℕ
items_then [] rest = rest
items_then (i ∷ more) rest = item_then i.0 (i.1 ++ items_then more rest)

-- ---- the XML declaration and the byte order mark

-- a setting of the declaration: a word and a value that fits it, with Eq between them, production 25
pub record IsSetting (word : List ℕ) (fits : List ℕ → Bool) (a : Attribute) : Type 0 where
  pub gap : (a.gap ≢ []) × IsSpace a.gap
  pub name : a.name ≡ record { prefix = []; local = word }
  pub left : IsSpace a.left
  pub right : IsSpace a.right
  pub quote : IsQuote a.quote
  pub no_quote : list_all (is_other a.quote) a.value ≡ true
  pub value : fits a.value ≡ true

abbrev pub is_minor : Option (List ℕ) → Bool
is_minor None = false
is_minor (Some digits) = is_filled digits && list_all is_ascii_digit digits

-- VersionNum, production 26: `1.` and one or more digits
unfoldable pub is_version : List ℕ → Bool
is_version value = is_minor (behind (codes "1.") value)

-- UTF-8 in letters of any case (production 80 has other encodings too)
abbrev pub is_encoding : List ℕ → Bool
is_encoding value = str_eq_ignore_ascii_case value (codes "UTF-8")

-- production 32
abbrev pub is_standalone : List ℕ → Bool
is_standalone value = bytes_eq value (codes "yes") || bytes_eq value (codes "no")

pub record Declaration : Type 0 where
  pub version : Attribute
  pub encoding : Option Attribute
  pub standalone : Option Attribute
  pub space : List ℕ

abbrev pub IsOptional : (Attribute → Type 0) → Option Attribute → Type 0
IsOptional Fits None = Unit {0}
IsOptional Fits (Some a) = Fits a

-- XMLDecl, production 23
pub record IsDeclaration (d : Declaration) : Type 0 where
  pub version : IsSetting (codes "version") is_version d.version
  pub encoding : IsOptional (IsSetting (codes "encoding") is_encoding) d.encoding
  pub standalone : IsOptional (IsSetting (codes "standalone") is_standalone) d.standalone
  pub space : IsSpace d.space

abbrev pub optional_then : Option Attribute → List ℕ → List ℕ
optional_then None rest = rest
optional_then (Some a) rest = attribute_then a rest

abbrev pub declaration_then : Declaration → List ℕ → List ℕ
declaration_then d rest =
    codes "<?xml" ++ attribute_then d.version (optional_then d.encoding (optional_then d.standalone (d.space ++ (codes "?>" ++ rest))))

-- U+FEFF in UTF-8
abbrev pub byte_order_mark : List ℕ
byte_order_mark = 0xEF ∷ 0xBB ∷ 0xBF ∷ []

-- the head of a text: an optional byte order mark and an optional declaration
pub record Head : Type 0 where
  pub marked : Bool
  pub declaration : Option Declaration

abbrev pub mark_then : Bool → List ℕ → List ℕ
mark_then false rest = rest
mark_then true rest = byte_order_mark ++ rest

abbrev pub declared_then : Option Declaration → List ℕ → List ℕ
declared_then None rest = rest
declared_then (Some d) rest = declaration_then d rest

-- a head as written, and the bytes after it
abbrev pub head_then : Head → List ℕ → List ℕ
head_then h rest = mark_then h.marked (declared_then h.declaration rest)

abbrev pub IsDeclared : Option Declaration → Type 0
IsDeclared None = Unit {0}
IsDeclared (Some d) = IsDeclaration d

-- no byte order mark and no declaration
abbrev pub no_head : Head
no_head = record { marked = false; declaration = None }

-- only the stretch before the root has a head
abbrev pub IsHead : Section → Head → Type 0
IsHead BeforeRoot h = IsDeclared h.declaration
IsHead InElement h = h ≡ no_head
IsHead AfterRoot h = h ≡ no_head

-- ---- stretches

-- A stretch: a head, a run, and then items, each followed by a run. Each of them may be empty, but not the whole.
pub record IsStretch (place : Section) (bs : List ℕ) : Type 0 where
  pub head : Head
  pub first : List ℕ
  pub more : List (Item × List ℕ)
  pub is_head : IsHead place head
  pub first_run : IsRun place first
  pub each : AllByRecursion (λ i. IsItem place i.0 × IsRun place i.1) more
  pub whole : bs ≡ head_then head (first ++ items_then more [])
  pub filled : bs ≢ []

-- the bytes begin with `<!` or `<?`, and so with no tag
abbrev pub begins_item : List ℕ → Bool
begins_item bs = begins (codes "<!") bs || begins (codes "<?") bs

-- a stretch is as long as it can be: it is followed by the end or by a tag
abbrev pub ends_stretch : List ℕ → Bool
ends_stretch [] = true
ends_stretch (b ∷ bs) = b == 60 && not (begins_item (b ∷ bs))
