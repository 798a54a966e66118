-- Into an element and out of it again: the scope is what it was.
use Rattle.std.proofs.Common.{◌≡◌, ℕ, suc, ◌+◌, Bool, true, false, cond, List, [], ◌∷◌, ◌++◌, length, drop, map, Option, Some, None, refl, sym, ap, subst, ◌∙◌, append_assoc, arith, length-append}
use Rattle.std.specs.Prelude.{◌&&◌, not, codes}
use Rattle.std.specs.List.{list_all}
use Rattle.std.proofs.Math.Seq.{drop-append_seam}
use Rattle.std.proofs.lemmas.Option.{same_Some, cond_some}
use Rattle.redl_tree.specs.declared.kinds.Space.{Space}
use Rattle.redl_grammar.specs.References.{is_there}
use Rattle.redl_grammar.specs.Names.{Name}
use Rattle.redl_markup.specs.Decoding.{decoded_value}
use Rattle.redl_reading.specs.Lists.{is_filled}
use Rattle.redl_markup.specs.Attributes.{attributes_of, names_in}
use Rattle.redl_markup.specs.Views.{name_view}
use Rattle.redl_markup.specs.declared.name.Name as code
use Rattle.redl_reading.proofs.Steps.{bind_some}
use Rattle.std.proofs.lemmas.Bool.{and_parts, and_from}
use Rattle.std.specs.Str.{bytes_eq}
use Rattle.redl_xml.specs.Scopes.{Scope, is_xmlns, space_named, declared_prefix, declared_by, is_allowed, with_declarations, scope_in, space_of, is_known, is_element_prefix, is_known_attribute, is_plain_name}
use Rattle.redl_xml.specs.Inside.Elements.{with_attribute, with_attributes, known, entered, declarations, declared_in}

-- ---- the scope grows by the declarations

record Grown (attributes : List (Name × List ℕ)) (scope : Scope) : Type 0 where
  front : Scope
  whole : with_declarations attributes scope ≡ front ++ scope
  long : length front ≡ declarations attributes

grown_more : (a : Name × List ℕ) (more : List (Name × List ℕ)) (scope : Scope) (o : Option (List ℕ)) → declared_prefix a.0 ≡ o → ((s : Scope) → Grown more s) → Grown (a ∷ more) scope
grown_more a more scope None e go =
    let g = go scope in
    record {
      front = g.front;
      whole = ap (λ (x : Option (List ℕ)). with_declarations more (declared_by x a.1 scope)) e ∙ g.whole;
      long = g.long ∙ ap (λ (x : Option (List ℕ)). cond (is_there x) (suc (declarations more)) (declarations more)) (sym e);
    }
grown_more a more scope (Some prefix) e go =
    let d : List ℕ × Space = (prefix, space_named (decoded_value a.1)) in
    let g = go (d ∷ scope) in
    record {
      front = g.front ++ d ∷ [];
      whole = ap (λ (x : Option (List ℕ)). with_declarations more (declared_by x a.1 scope)) e ∙ g.whole ∙ sym (append_assoc g.front (d ∷ []) scope);
      long = length-append g.front (d ∷ []) ∙ omega (arith, g.long) ∙ ap (λ (x : Option (List ℕ)). cond (is_there x) (suc (declarations more)) (declarations more)) (sym e);
    }

grown : (attributes : List (Name × List ℕ)) (scope : Scope) → Grown attributes scope
grown [] scope = record { front = []; whole = refl; long = refl }
grown (a ∷ more) scope = grown_more a more scope (declared_prefix a.0) refl (grown more)

pub left_again : (tail : List ℕ) (scope : Scope) → drop (declared_in tail) (scope_in tail scope) ≡ scope
unfolding declared_in
left_again tail scope =
    let g = grown (attributes_of tail) scope in
    ap (drop (declarations (attributes_of tail))) g.whole ∙ ap (λ (n : ℕ). drop n (g.front ++ scope)) (sym g.long) ∙ drop-append_seam g.front scope

-- ---- what entering says

-- an element with these attributes may be entered
pub record MayEnter (scope : Scope) (name : Name) (tail : List ℕ) : Type 0 where
  pub declarations : list_all is_allowed (attributes_of tail) ≡ true
  pub prefix : is_element_prefix (scope_in tail scope) name.prefix ≡ true
  pub prefixes : list_all (is_known_attribute (scope_in tail scope)) (attributes_of tail) ≡ true

abbrev pub inside : Scope → Name → List ℕ → Space × Scope
inside scope name tail = (space_of (scope_in tail scope) name.prefix, scope_in tail scope)

with_takes : (attributes : List (Name × List ℕ)) (scope s : Scope) → with_attributes attributes scope ≡ Some s → (list_all is_allowed attributes ≡ true) × (with_declarations attributes scope ≡ s)
unfolding with_attribute
with_takes [] scope s e = (refl, same_Some scope s e)
with_takes (a ∷ more) scope s e =
    let first = bind_some (cond (is_allowed a) (Some (declared_by (declared_prefix a.0) a.1 scope)) None) (with_attributes more) s e in
    let c = cond_some (is_allowed a) (declared_by (declared_prefix a.0) a.1 scope) first.0 first.1 in
    let P : Scope → Type 0 = λ x. with_attributes more x ≡ Some s in
    let go = with_takes more (declared_by (declared_prefix a.0) a.1 scope) s (subst P (sym c.1) first.2) in
    (and_from (is_allowed a) (list_all is_allowed more) c.0 go.0, go.1)

with_again : (attributes : List (Name × List ℕ)) (scope : Scope) → list_all is_allowed attributes ≡ true → with_attributes attributes scope ≡ Some (with_declarations attributes scope)
unfolding with_attribute
with_again [] scope h = refl
with_again (a ∷ more) scope h =
    let both = and_parts (is_allowed a) (list_all is_allowed more) h in
    rw both.0 (with_again more (declared_by (declared_prefix a.0) a.1 scope) both.1)

pub entered_takes : (scope : Scope) (name : Name) (tail : List ℕ) (x : Space × Scope) → entered scope name tail ≡ Some x → MayEnter scope name tail × (inside scope name tail ≡ x)
unfolding entered known
entered_takes scope name tail x e =
    let r = bind_some (with_attributes (attributes_of tail) scope) (known name (attributes_of tail)) x e in
    let t = with_takes (attributes_of tail) scope r.0 r.1 in
    let P : Scope → Type 0 = λ s. known name (attributes_of tail) s ≡ Some x in
    let inner = scope_in tail scope in
    let c = cond_some (is_element_prefix inner name.prefix && list_all (is_known_attribute inner) (attributes_of tail)) (inside scope name tail) x (subst P (sym t.1) r.2) in
    let both = and_parts (is_element_prefix inner name.prefix) (list_all (is_known_attribute inner) (attributes_of tail)) c.0 in
    (record { declarations = t.0; prefix = both.0; prefixes = both.1 }, c.1)

pub entered_again : (scope : Scope) (name : Name) (tail : List ℕ) → MayEnter scope name tail → entered scope name tail ≡ Some (inside scope name tail)
unfolding entered known
entered_again scope name tail h =
    rw (with_again (attributes_of tail) scope h.declarations, h.prefix, h.prefixes) refl

-- the scope after an element that was entered
pub left_entered : (scope : Scope) (name : Name) (tail : List ℕ) (x : Space × Scope) → entered scope name tail ≡ Some x → drop (declared_in tail) x.1 ≡ scope
left_entered scope name tail x e =
    let t = entered_takes scope name tail x e in
    ap (λ (y : Space × Scope). drop (declared_in tail) y.1) (sym t.1) ∙ left_again tail scope

-- ---- an element that declares nothing

declares_nothing : (o : Option (List ℕ)) → not (is_there o) ≡ true → o ≡ None
declares_nothing None e = refl
declares_nothing (Some x) e = absurd cc

-- the names of the attributes are plain
abbrev ArePlain : Scope → List (Name × List ℕ) → Type 0
ArePlain scope attributes = list_all (is_plain_name scope) (map (λ a. a.0) attributes) ≡ true

plain_attributes : (scope : Scope) (attributes : List (Name × List ℕ)) → ArePlain scope attributes → (with_attributes attributes scope ≡ Some scope) × (list_all (is_known_attribute scope) attributes ≡ true)
unfolding with_attribute
plain_attributes scope [] h = (refl, refl)
plain_attributes scope (a ∷ more) h =
    let both = and_parts (is_plain_name scope a.0) (list_all (is_plain_name scope) (map (λ (b : Name × List ℕ). b.0) more)) h in
    let plain = and_parts (not (is_there (declared_prefix a.0))) (is_known scope a.0.prefix) both.0 in
    let none = declares_nothing (declared_prefix a.0) plain.0 in
    let rest = plain_attributes scope more both.1 in
    (rw none rest.0, rw (none, plain.1) rest.1)

-- entering it depends only on its own prefix, and the scope stays
pub plain_entered : (scope : Scope) (name : Name) (tail : List ℕ) → list_all (is_plain_name scope) (names_in tail) ≡ true → entered scope name tail ≡ known name [] scope
unfolding entered known
plain_entered scope name tail h =
    let p = plain_attributes scope (attributes_of tail) h in
    rw (p.0, p.1) refl

nothing_declared : (scope : Scope) (attributes : List (Name × List ℕ)) → ArePlain scope attributes → declarations attributes ≡ 0
nothing_declared scope [] h = refl
nothing_declared scope (a ∷ more) h =
    let both = and_parts (is_plain_name scope a.0) (list_all (is_plain_name scope) (map (λ (b : Name × List ℕ). b.0) more)) h in
    let plain = and_parts (not (is_there (declared_prefix a.0))) (is_known scope a.0.prefix) both.0 in
    rw (declares_nothing (declared_prefix a.0) plain.0) (nothing_declared scope more both.1)

pub plain_declares_nothing : (scope : Scope) (tail : List ℕ) → list_all (is_plain_name scope) (names_in tail) ≡ true → 0 ≡ declared_in tail
unfolding declared_in
plain_declares_nothing scope tail h = sym (nothing_declared scope (attributes_of tail) h)

-- the scope has grown by the declarations
pub declared_long : (scope s : Scope) (tail : List ℕ) → with_attributes (attributes_of tail) scope ≡ Some s → length s ≡ declared_in tail + length scope
unfolding declared_in
declared_long scope s tail e =
    let t = with_takes (attributes_of tail) scope s e in
    let g = grown (attributes_of tail) scope in
    omega (arith, ap length t.1, ap length g.whole, length-append g.front scope, g.long)

-- an element that may be entered without its attributes may have its prefix
pub own_is_known : (scope : Scope) (name : Name) (x : Space × Scope) → known name [] scope ≡ Some x → is_element_prefix scope name.prefix ≡ true
unfolding known
own_is_known scope name x e =
    let c = cond_some (is_element_prefix scope name.prefix && true) (space_of scope name.prefix, scope) x e in
    (and_parts (is_element_prefix scope name.prefix) true c.0).0

-- ---- a plain name

-- a name with a prefix is plain if an element may have that prefix
prefixed_is_plain : (scope : Scope) (name : Name) → is_filled name.prefix ≡ true → is_plain_name scope name ≡ is_element_prefix scope name.prefix
prefixed_is_plain scope name filled = of (is_xmlns name.prefix) refl where
  of : (t : Bool) → is_xmlns name.prefix ≡ t → is_plain_name scope name ≡ is_element_prefix scope name.prefix
  of true e = rw e refl
  of false e = rw (e, filled) refl

-- a name without one is plain if it is not `xmlns`
bare_is_plain : (scope : Scope) (local : List ℕ) → is_plain_name scope (record { prefix = []; local = local }) ≡ not (is_xmlns local)
unfolding is_xmlns is_known
bare_is_plain scope local = of (bytes_eq local (codes "xmlns")) refl where
  of : (t : Bool) → bytes_eq local (codes "xmlns") ≡ t → is_plain_name scope (record { prefix = []; local = local }) ≡ not t
  of true e = rw e refl
  of false e = rw e refl

pub bare_passes : (scope : Scope) (prefix local : List ℕ) → length prefix ≡ 0 → is_xmlns local ≡ false → is_plain_name scope (record { prefix = prefix; local = local }) ≡ true
bare_passes scope [] local none other = bare_is_plain scope local ∙ ap not other
bare_passes scope (b ∷ bs) local none other = absurd cc

pub no_prefix_may_stand : (scope : Scope) → is_element_prefix scope [] ≡ true
unfolding is_xmlns is_known
no_prefix_may_stand scope = refl

-- the names go on as they are behind a plain one
pub goes_past : (p : Name → Bool) (n : code.Name) (rest left : List code.Name) → left ≡ n ∷ rest → p (name_view n) ≡ true → list_all p (map name_view rest) ≡ list_all p (map name_view left)
goes_past p n rest left e h = rw (e, h) refl
