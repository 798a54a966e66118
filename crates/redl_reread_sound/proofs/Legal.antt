-- What was read stays what can be read: tags, stretches, and how elements are closed, with other labels, with the names of live text, and with
-- neighbouring stretches as one.
use Rattle.std.proofs.Common.{◌≡◌, refl, sym, ap, subst, ℕ, List, [], ◌∷◌, ◌++◌, Bool, true, false, codes, if◌then◌else◌}
use Rattle.std.proofs.lemmas.Bool.{and_parts, not-true}
use Rattle.redl_grammar.specs.Characters.{IsText, is_name_start, is_name_character}
use Rattle.redl_grammar.specs.Names.{may_start, may_follow, name_text, IsWord}
use Rattle.redl_grammar.specs.Stretches.{IsStretch}
use Rattle.redl_grammar.specs.declared.section.Section.TheVariants.{InElement}
use Rattle.redl_tree.specs.Decisions.Fates.{live_name}
use Rattle.redl_tree.specs.Decisions.Groups.{ended}
use Rattle.redl_tree.specs.Model.Nodes.{Tag, Nodes, no_nodes, bytes, element, Close, Empty, End}
use Rattle.redl_tree.specs.Model.Text.{prefix_text, start_text, rest_text, element_text, text}
use Rattle.redl_tree.specs.Model.Text as tree
use Rattle.redl_tree.specs.Revisions.Labels.{unlabelled_tag, unlabelled}
use Rattle.redl_tree.specs.Roles.Names.{is}
use Rattle.redl_tree.proofs.Model.TreeTexts.{same_name_text}
use Rattle.redl_xml.specs.Readings.{name_of, IsTag, ClosesBy, AreLegal}
use Rattle.redl_xml.specs.Scopes.{Scope, scope_in}
use Rattle.redl_reread_sound.specs.Scopes.{IsScoped}
use Rattle.redl_reread_sound.specs.Together.{stretched, together, forms_end, meets_well, meet_well}
use Rattle.redl_reread_sound.proofs.Glued.{stretches-glued}
use Rattle.redl_reread_sound.proofs.PassedScopes.{scoped-live, scoped-close}
use Rattle.redl_reread_sound.proofs.ReadNodes.{IsReadTag, AreRead}
use Rattle.redl_reread_sound.proofs.Texts.{text-nil, text-append, less, greater, ends_empty, begins_end, live_text, live_code, space-text, name-local}
use lib.Utf8.{encode}

-- ---- tags

local_t : IsWord false (codes "t")
unfolding may_start may_follow is_name_start is_name_character encode
local_t = record { first = 116; more = []; start = refl; each = refl; scalars = refl; whole = refl }

local_code : IsWord false (codes "instrText")
unfolding may_start may_follow is_name_start is_name_character encode
local_code = record { first = 105; more = codes "nstrText"; start = refl; each = refl; scalars = refl; whole = refl }

pub read-live : (scope : Scope) (tag : Tag) → IsReadTag scope tag → IsReadTag scope (live_name tag)
read-live scope tag h = at (is "delText" tag) (is "delInstrText" tag) (scoped-live scope tag h.scoped)
  where
    at : (b c : Bool) → IsScoped scope (if b then record tag { local = codes "t" } else if c then record tag { local = codes "instrText" } else tag)
        → IsReadTag scope (if b then record tag { local = codes "t" } else if c then record tag { local = codes "instrText" } else tag)
    at true c s = record {
      name = record { prefix = h.name.prefix; local = local_t };
      named = name-local (name_of tag) (codes "t") h.name h.named live_text;
      scoped = s;
      written = h.written;
    }
    at false true s = record {
      name = record { prefix = h.name.prefix; local = local_code };
      named = name-local (name_of tag) (codes "instrText") h.name h.named live_code;
      scoped = s;
      written = h.written;
    }
    at false false s = h

pub read-close : (scope : Scope) (tag : Tag) (close : Close) → IsReadTag scope tag → IsReadTag scope (record tag { close = close })
read-close scope tag close h = record { name = h.name; named = h.named; scoped = scoped-close scope tag close h.scoped; written = h.written }

pub closes-stays : (close : Close) (old new : Nodes) → ClosesBy close old → (old ≡ no_nodes → new ≡ no_nodes) → ClosesBy close new
closes-stays Empty old new h none = none h
closes-stays (End space) old new h none = h

pub closes-ended : (close : Close) (old new : Nodes) → ClosesBy close old → ClosesBy (ended close) new
closes-ended Empty old new h = refl
closes-ended (End space) old new h = h

-- ---- labels

bare-scoped : (scope : Scope) (tag : Tag) → IsScoped scope tag → IsScoped scope (unlabelled_tag tag)
bare-scoped scope tag h = record { tail = h.tail; utf8 = h.utf8; declarations = h.declarations; prefix = h.prefix; prefixes = h.prefixes; space = h.space }

scoped-labelled : (scope : Scope) (tag : Tag) → IsScoped scope (unlabelled_tag tag) → IsScoped scope tag
scoped-labelled scope tag h = record { tail = h.tail; utf8 = h.utf8; declarations = h.declarations; prefix = h.prefix; prefixes = h.prefixes; space = h.space }

none-unlabelled : (kids : Nodes) → kids ≡ no_nodes → unlabelled kids ≡ no_nodes
none-unlabelled kids e = ap unlabelled e

none-labelled : (kids : Nodes) → unlabelled kids ≡ no_nodes → kids ≡ no_nodes
none-labelled no_nodes e = refl
none-labelled (bytes b rest) e = absurd (cc e)
none-labelled (element tag kids rest) e = absurd (cc e)

pub read-unlabelled : (scope : Scope) (nodes : Nodes) → AreRead scope nodes → AreRead scope (unlabelled nodes)
read-unlabelled scope no_nodes h = tt
read-unlabelled scope (bytes b rest) h = (h.0, read-unlabelled scope rest h.1)
read-unlabelled scope (element tag kids rest) h = (
  record { name = h.0.name; named = h.0.named; scoped = bare-scoped scope tag h.0.scoped; written = h.0.written },
  closes-stays tag.close kids (unlabelled kids) h.1 (none-unlabelled kids),
  read-unlabelled (scope_in tag.tail scope) kids h.2,
  read-unlabelled scope rest h.3,
)

pub read-labelled : (scope : Scope) (nodes : Nodes) → AreRead scope (unlabelled nodes) → AreRead scope nodes
read-labelled scope no_nodes h = tt
read-labelled scope (bytes b rest) h = (h.0, read-labelled scope rest h.1)
read-labelled scope (element tag kids rest) h = (
  record { name = h.0.name; named = h.0.named; scoped = scoped-labelled scope tag h.0.scoped; written = h.0.written },
  closes-stays tag.close (unlabelled kids) kids h.1 (none-labelled kids),
  read-labelled (scope_in tag.tail scope) kids h.2,
  read-labelled scope rest h.3,
)

-- ---- their text

named-text : (tag : Tag) → IsText (name_text (name_of tag)) → IsText (tree.name_text tag.prefix tag.local)
named-text tag h = let P : List ℕ → Type 0 = IsText in subst P (sym (same_name_text tag.prefix tag.local)) h

rest-text : (tag : Tag) (close : Close) (kids : Nodes) (inner : List ℕ) → IsText (name_text (name_of tag)) → ClosesBy close kids → IsText inner → IsText (rest_text tag close inner)
rest-text tag Empty kids inner n c t = ends_empty
rest-text tag (End space) kids inner n c t =
    let name = tree.name_text tag.prefix tag.local in
    text-append (62 ∷ []) (inner ++ ((60 ∷ 47 ∷ []) ++ (name ++ (space ++ (62 ∷ []))))) greater
    (text-append inner ((60 ∷ 47 ∷ []) ++ (name ++ (space ++ (62 ∷ [])))) t
    (text-append (60 ∷ 47 ∷ []) (name ++ (space ++ (62 ∷ []))) begins_end
    (text-append name (space ++ (62 ∷ [])) (named-text tag n) (text-append space (62 ∷ []) (space-text space c) greater))))

pub element-text : (scope : Scope) (tag : Tag) (kids : Nodes) (inner : List ℕ) → IsReadTag scope tag → ClosesBy tag.close kids → IsText inner → IsText (element_text tag inner)
element-text scope tag kids inner h c t =
    let name = tree.name_text tag.prefix tag.local in
    text-append (start_text tag) (rest_text tag tag.close inner)
    (text-append (60 ∷ []) (name ++ tag.tail) less (text-append name tag.tail (named-text tag h.named) h.written)) (rest-text tag tag.close kids inner h.named c t)

-- the text of what was read is one of allowed characters
pub nodes-text : (scope : Scope) (nodes : Nodes) → AreRead scope nodes → IsText (text nodes)
nodes-text scope no_nodes h = text-nil
nodes-text scope (bytes b rest) h = text-append b (text rest) h.0.characters (nodes-text scope rest h.1)
nodes-text scope (element tag kids rest) h =
    text-append (element_text tag (text kids)) (text rest) (element-text scope tag kids (text kids) h.0 h.1 (nodes-text (scope_in tag.tail scope) kids h.2)) (nodes-text scope rest h.3)

-- ---- neighbouring stretches as one

pub read-tag : (scope : Scope) (tag : Tag) → IsReadTag scope tag → IsTag scope (unlabelled_tag tag)
read-tag scope tag h = record {
  name = h.name;
  tail = h.scoped.tail;
  declarations = h.scoped.declarations;
  prefix = h.scoped.prefix;
  prefixes = h.scoped.prefixes;
  space = h.scoped.space;
  kind = refl;
  rev = refl;
}

legal-stretched : (scope : Scope) (b : List ℕ) (nodes : Nodes) → IsStretch InElement b → meets_well b nodes ≡ true → AreLegal scope (unlabelled nodes)
    → AreLegal scope (unlabelled (stretched b nodes))
legal-stretched scope b no_nodes one well h = (one, refl, tt)
legal-stretched scope b (bytes c rest) one well h = (stretches-glued b c one h.0 (not-true (forms_end b c) well), h.1, h.2)
legal-stretched scope b (element tag kids rest) one well h = (one, refl, h)

pub none-together : (kids : Nodes) → kids ≡ no_nodes → unlabelled (together kids) ≡ no_nodes
none-together kids e = ap (λ (k : Nodes). unlabelled (together k)) e

pub legal-together : (scope : Scope) (nodes : Nodes) → AreRead scope nodes → meet_well nodes ≡ true → AreLegal scope (unlabelled (together nodes))
legal-together scope no_nodes h well = tt
legal-together scope (bytes b rest) h well =
    let both = and_parts (meets_well b (together rest)) (meet_well rest) well in
    legal-stretched scope b (together rest) h.0.stretch both.0 (legal-together scope rest h.1 both.1)
legal-together scope (element tag kids rest) h well =
    let both = and_parts (meet_well kids) (meet_well rest) well in (
      read-tag scope tag h.0,
      closes-stays tag.close kids (unlabelled (together kids)) h.1 (none-together kids),
      legal-together (scope_in tag.tail scope) kids h.2 both.0,
      legal-together scope rest h.3 both.1,
    )
