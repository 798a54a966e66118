-- Steps, parts and elements one after another.
use Rattle.std.proofs.Common.{◌≡◌, ◌∙◌, ◌<◌, ◌≤◌, ◌+◌, ◌-◌, ℕ, zero, suc, List, ◌∷◌, drop, length, slice_get, Bool, true, false, Option, Some, None, option_and_then, is_some, if◌then◌else◌, bytes_eq, refl, sym, ap, arith}
use Rattle.std.specs.Option.{option_map, option_map_or}
use Rattle.std.proofs.lemmas.Slice.Eq.{bytes_eq-Decides}
use Rattle.redl_reading.specs.Steps.{or_else}
use Rattle.redl_tree.specs.Model.Nodes.{Tag, Nodes, no_nodes, bytes, element, Item, bytes_item, element_item, idle_item, in_front, ◌⊕◌}
use Rattle.redl_tree.specs.Model.IdleTexts.{idle_nodes}
use Rattle.redl_tree.specs.Model.View.{Element}
use Rattle.redl_tree.specs.Roles.Names.{is_w}
use Rattle.redl_tree.specs.Roles.Idle.{is_idle_in}
use Rattle.redl_tree.specs.Decisions.Packages.{is_pkg}
use Rattle.redl_tree.specs.declared.kinds.Space.{Space}
use Rattle.redl_tree.specs.declared.kinds.Space.TheVariants.{W, M, Pkg, Other}
use Rattle.redl_tree.proofs.Idle.Tags.{idle_parts}
use Rattle.redl_tree.proofs.Idle.Items.{nodes_are_idle}
use Rattle.redl_opc.specs.Shape.{parts_of, story_of, is_document, is_document_root}
use Rattle.redl_opc.specs.Parts.{name_in, part_name, story}
use Rattle.redl_opc.proofs.WalkLaws.{part-at, parts-end}
use Rattle.redl_relations.specs.Relations.{is_unknown, number_from, has_part_name, part_named, first_with, has_id, name_at, part_at}
use Rattle.redl_relations.specs.Inside.Parts.{is_at}
use Rattle.redl_relations.specs.Inside.Sought.{is_sought}
use Rattle.redl_relations.specs.Inside.Tables.{number_at, lead_of, lead_in, item_lead}
use Rattle.redl_relations.specs.Leads.{lead_or}
use Rattle.redl_relations.specs.declared.sought.Sought.{Sought}
use Rattle.redl_relations.specs.declared.sought.Sought.TheVariants.{Data, Relations, OfType, WithId}
use Rattle.redl_relations.specs.declared.leads.Whence.{Whence}

-- ---- an element of W is not sought

no_package : (space : Space) → is_w space ≡ true → is_pkg space ≡ false
no_package W h = refl
no_package M h = absurd cc
no_package Pkg h = absurd cc
no_package Other h = absurd cc

no_unknown : (space : Space) → is_w space ≡ true → is_unknown space ≡ false
no_unknown W h = refl
no_unknown M h = absurd cc
no_unknown Pkg h = absurd cc
no_unknown Other h = absurd cc

not_sought : (sought : Sought) (tag : Tag) → is_w tag.space ≡ true → is_sought sought tag ≡ false
not_sought Data tag w = rw (no_package tag.space w) refl
not_sought Relations tag w = rw (no_unknown tag.space w) refl
not_sought (OfType ending) tag w = rw (no_unknown tag.space w) refl
not_sought (WithId id) tag w = rw (no_unknown tag.space w) refl

past_idle : (sought : Sought) (in_run : Bool) (x y : Nodes) → is_idle_in in_run x ≡ true → first_with (is_sought sought) (x ⊕ y) ≡ first_with (is_sought sought) y
past_idle sought in_run no_nodes y h = refl
past_idle sought in_run (bytes b rest) y h = past_idle sought in_run rest y h
past_idle sought in_run (element tag kids rest) y h =
    let p = idle_parts in_run tag kids rest h in
    ap (λ b. if b then Some (record { tag = tag; kids = kids }) else first_with (is_sought sought) (rest ⊕ y)) (not_sought sought tag p.own.space)
    ∙ past_idle sought in_run rest y p.later

pub past_text : (sought : Sought) (t : List ℕ) (rest : Nodes) → first_with (is_sought sought) (in_front (idle_item t) rest) ≡ first_with (is_sought sought) rest
past_text sought t rest = past_idle sought false (idle_nodes t) rest (nodes_are_idle t)

pub past_id : (id t : List ℕ) (rest : Nodes) → first_with (has_id id) (in_front (idle_item t) rest) ≡ first_with (has_id id) rest
past_id id t rest = by false (idle_nodes t) (nodes_are_idle t)
  where
    not_id : (tag : Tag) → is_w tag.space ≡ true → has_id id tag ≡ false
    not_id tag w = rw (no_unknown tag.space w) refl

    by : (in_run : Bool) (x : Nodes) → is_idle_in in_run x ≡ true → first_with (has_id id) (x ⊕ rest) ≡ first_with (has_id id) rest
    by in_run no_nodes h = refl
    by in_run (bytes b more) h = by in_run more h
    by in_run (element tag kids more) h =
        let p = idle_parts in_run tag kids more h in
        ap (λ b. if b then Some (record { tag = tag; kids = kids }) else first_with (has_id id) (more ⊕ rest)) (not_id tag p.own.space)
        ∙ by in_run more p.later

-- ---- part by part

pub number-here : (p : Element → Bool) (nodes : Nodes) (n : ℕ) → n < length (parts_of nodes)
    → number_from p n (drop n (parts_of nodes)) ≡ (if is_at p nodes n then Some n else number_from p (n + 1) (drop (n + 1) (parts_of nodes)))
number-here p nodes n within =
    let found = part-at nodes n within in
    ap (number_from p n) found.1.front
    ∙ sym (rw found.1.at refl)

pub number-end : (p : Element → Bool) (nodes : Nodes) (n : ℕ) → length (parts_of nodes) ≤ n → number_from p n (drop n (parts_of nodes)) ≡ None
number-end p nodes n past = ap (number_from p n) (parts-end nodes n past)

-- a part by its name
pub at_name : (nodes : Nodes) (n : ℕ) (name : List ℕ) → is_at (has_part_name name) nodes n ≡ option_map_or (λ own. bytes_eq own name) (part_name nodes n) false
at_name nodes n name = by (slice_get (parts_of nodes) n)
  where
    by : (o : Option Element) → option_map_or (has_part_name name) o false ≡ option_map_or (λ own. bytes_eq own name) (option_map (λ part. name_in part.tag) o) false
    by None = refl
    by (Some part) = refl

-- and by its story
pub at_story : (nodes : Nodes) (n : ℕ) → is_at is_document nodes n ≡ is_document_root (story nodes n)
at_story nodes n = by (slice_get (parts_of nodes) n)
  where
    by : (o : Option Element) → option_map_or is_document o false ≡ is_document_root (option_and_then story_of o)
    by None = refl
    by (Some part) = refl

pub get-later : (e : Element) (more : List Element) (n : ℕ) → 0 < n → slice_get (e ∷ more) n ≡ slice_get more (n - 1)
get-later e more zero h = absurd (omega (arith, h))
get-later e more (suc k) h = let is : k ≡ suc k - 1 = omega arith in ap (slice_get more) is

-- ---- tables

-- with nothing else to take, the first is taken
pub or_else-none : {A : Type 0} (o : Option A) → or_else o None ≡ o
or_else-none None = refl
or_else-none (Some x) = refl

or_else-some : {A : Type 0} (o other : Option A) → is_some o ≡ true → or_else o other ≡ o
or_else-some None other h = absurd cc
or_else-some (Some x) other h = refl

or_else-first : {A : Type 0} (o other : Option A) → is_some o ≡ false → or_else o other ≡ other
or_else-first None other h = refl
or_else-first (Some x) other h = absurd cc

-- of three the first that is there is taken
pub or_else-assoc : {A : Type 0} (a b c : Option A) → or_else (or_else a b) c ≡ or_else a (or_else b c)
or_else-assoc None b c = refl
or_else-assoc (Some x) b c = refl

-- a table that has the key stays as it is
pub stays : {A : Type 0} (at : List ℕ → Option A) (key other : List ℕ) (value : A) → is_some (at key) ≡ true
    → at other ≡ or_else (at other) (if bytes_eq key other then Some value else None)
stays at key other value has = by (bytes_eq key other) refl
  where
    by : (b : Bool) → bytes_eq key other ≡ b → at other ≡ or_else (at other) (if b then Some value else None)
    by true same = sym (or_else-some (at other) (Some value) (ap (λ k. is_some (at k)) (sym ((bytes_eq-Decides key other).0 same)) ∙ has))
    by false apart = sym (or_else-none (at other))

-- and any other gets it
pub gets : {A : Type 0} (at : List ℕ → Option A) (key other : List ℕ) (value : A) → is_some (at key) ≡ false
    → (if bytes_eq key other then Some value else at other) ≡ or_else (at other) (if bytes_eq key other then Some value else None)
gets at key other value none = by (bytes_eq key other) refl
  where
    by : (b : Bool) → bytes_eq key other ≡ b → (if b then Some value else at other) ≡ or_else (at other) (if b then Some value else None)
    by true same = sym (or_else-first (at other) (Some value) (ap (λ k. is_some (at k)) (sym ((bytes_eq-Decides key other).0 same)) ∙ none))
    by false apart = sym (or_else-none (at other))

-- ---- leads

pub lead-in_front : (whence : Whence) (id : List ℕ) (x : Item) (rest : Nodes) → lead_in whence id (in_front x rest) ≡ or_else (item_lead whence id x) (lead_in whence id rest)
lead-in_front whence id (bytes_item b) rest = refl
lead-in_front whence id (element_item tag kids) rest = by (has_id id tag)
  where
    by : (b : Bool) → option_map (lead_of whence) (if b then Some (record { tag = tag; kids = kids }) else first_with (has_id id) rest)
        ≡ or_else (if b then Some (lead_of whence (record { tag = tag; kids = kids })) else None) (lead_in whence id rest)
    by true = refl
    by false = refl
lead-in_front whence id (idle_item t) rest = ap (option_map (lead_of whence)) (past_id id t rest)

pub led : (whence : Whence) (nodes : Nodes) → ((name : List ℕ) → number_at whence.names.now name ≡ part_named nodes name) → (o : Option Element)
    → lead_or None (option_map (lead_of whence) o) ≡ part_at nodes whence.source.now o
led whence nodes h None = refl
led whence nodes h (Some e) = h (name_at whence.source.now e)
