-- The top of a passed list: an element that is the only, the first or the last one of its name in the original is so in the
-- result.
use Prim.Native.String.{String}
use Rattle.std.proofs.Common.{◌≡◌, ℕ, zero, suc, ◌+◌, ◌≤◌, List, [], ◌∷◌, Bool, true, false, ◌&&◌, ◌||◌, not, Option, Some, None, refl, sym, ap, ◌∙◌, true≢false, arith, if◌then◌else◌}
use Rattle.std.proofs.lemmas.Bool.{and_parts, and_from, or_parts, or_from, not-true, false_from_ne_true}
use Rattle.redl_tree.specs.Model.Nodes.{Tag, Nodes, no_nodes, bytes, element, ◌⊕◌}
use Rattle.redl_tree.specs.Roles.Names.{is}
use Rattle.redl_tree.specs.Model.Kids.{without, some_element, has_element}
use Rattle.redl_tree.specs.Roles.Places.{is_quiet, is_open}
use Rattle.redl_tree.specs.Roles.Lists.{is_direct}
use Rattle.redl_tree.specs.Roles.Kinds.{is_content}
use Rattle.redl_tree.specs.Decisions.Fates.{fate_of, renamed}
use Rattle.redl_tree.specs.Decisions.Tables.{goes_at}
use Rattle.redl_tree.specs.Decisions.Groups.{GroupPiece, para, thin, thick, has_thick, joins, ended, joined_tag, joined_kids, unjoined_para, given, held_by, grouped_from}
use Rattle.redl_tree.specs.Decisions.Pass.{by_fate, kept_kids, element_pass, pieces, pass}
use Rattle.redl_tree.specs.Rules.Tests.{Test, implies, once, only_first, only_last}
use Rattle.redl_tree.specs.Rules.Sound.{in_content}
use Rattle.redl_tree.specs.declared.kinds.Say.{Say}
use Rattle.redl_tree.specs.declared.kinds.Fate.{Fate}
use Rattle.redl_tree.specs.declared.kinds.Fate.TheVariants.{Leave, Free, Cut, Clear, Restore, Drop}
use Rattle.redl_tree.proofs.Model.Laws.{⊕_assoc, ⊕-no_nodes}
use Rattle.redl_tree.proofs.Decisions.PassLaws.{alone, all_alone, each, all_alone-each, pass-each}
use Rattle.redl_tree.proofs.Roles.Fits.{true_false, open_∷}
use Rattle.redl_tree.proofs.Roles.Named.{by_trace}
use Rattle.redl_laws.proofs.Soundness.AlikeTags.{Like, ordinary, like_self, like_close, own_renamed}
use Rattle.redl_laws.proofs.Soundness.Ancestors.{Free3, free3, implies_from, implies_of, not_of, not_to, reach_trace, in_blocks-reach}
use Rattle.redl_laws.proofs.Soundness.Walk.{Ground, content_fits, some-⊕}

-- the first list at the top: its elements in order, with other kids and like tags, or in place of one some foreign nodes
pub data Sub (n : Tag → Bool) : Nodes → Nodes → Type 0 where
  done : Sub n no_nodes no_nodes
  fewer : {xs ys : Nodes} (b : List ℕ) → Sub n xs ys → Sub n (bytes b xs) ys
  more : {xs ys : Nodes} (b : List ℕ) → Sub n xs ys → Sub n xs (bytes b ys)
  keeps : {xs ys : Nodes} (a b : Tag) (ka kb : Nodes) → Like a b → Sub n xs ys → Sub n (element a ka xs) (element b kb ys)
  spills : {xs : Nodes} (a : Tag) (ka zs ys : Nodes) (r : Nodes) → some_element n zs ≡ false → Sub n xs ys → zs ⊕ ys ≡ r → Sub n (element a ka xs) r

-- a test of the result is one of the original
abbrev pub From : (Tag → Bool) → (Tag → Bool) → Type 0
From n m = (a b : Tag) → Like a b → m b ≡ true → n a ≡ true

from_false : (n m : Tag → Bool) → From n m → (a b : Tag) → Like a b → n a ≡ false → m b ≡ false
from_false n m f a b l e = false_from_ne_true (m b) (λ h. true_false (n a) (f a b l h) e)

pub sub_some : (n m : Tag → Bool) → From n m → (xs ys : Nodes) → Sub m xs ys → some_element n xs ≡ false → some_element m ys ≡ false
sub_some n m f xs ys done e = refl
sub_some n m f xs ys (fewer {xs = x} {ys = y} b s) e = sub_some n m f x y s e
sub_some n m f xs ys (more {xs = x} {ys = y} b s) e = sub_some n m f x y s e
sub_some n m f xs ys (keeps {xs = x} {ys = y} a b ka kb l s) e =
    let both = or_parts (n a) (some_element n x) e in
    or_from (m b) (some_element m y) (from_false n m f a b l both.0) (sub_some n m f x y s both.1)
sub_some n m f xs ys (spills {xs = x} a ka z y r fo s eq) e =
    ap (some_element m) (sym eq) ∙ some-⊕ m z y fo (sub_some n m f x y s (or_parts (n a) (some_element n x) e).1)

pub sub_none : (m : Tag → Bool) (xs ys : Nodes) → Sub m xs ys → has_element xs ≡ false → has_element ys ≡ false
sub_none m xs ys done e = refl
sub_none m xs ys (fewer {xs = x} {ys = y} b s) e = sub_none m x y s e
sub_none m xs ys (more {xs = x} {ys = y} b s) e = sub_none m x y s e
sub_none m xs ys (keeps a b ka kb l s) e = absurd (true≢false e)
sub_none m xs ys (spills a ka z y r fo s eq) e = absurd (true≢false e)

last-⊕ : (n : Tag → Bool) (xs ys : Nodes) → some_element n xs ≡ false → only_last n ys ≡ true → only_last n (xs ⊕ ys) ≡ true
last-⊕ n no_nodes ys p q = q
last-⊕ n (bytes b rest) ys p q = last-⊕ n rest ys p q
last-⊕ n (element t k rest) ys p q =
    let both = or_parts (n t) (some_element n rest) p in
    and_from _ _ (implies_from (n t) _ (λ h. absurd (true_false (n t) h both.0))) (last-⊕ n rest ys both.1 q)

pub last_none : (n : Tag → Bool) (xs : Nodes) → some_element n xs ≡ false → only_last n xs ≡ true
last_none n xs e = ap (only_last n) (sym (⊕-no_nodes xs)) ∙ last-⊕ n xs no_nodes e refl

pub sub_last : (n m : Tag → Bool) → From n m → (xs ys : Nodes) → Sub m xs ys → only_last n xs ≡ true → only_last m ys ≡ true
sub_last n m f xs ys done e = refl
sub_last n m f xs ys (fewer {xs = x} {ys = y} b s) e = sub_last n m f x y s e
sub_last n m f xs ys (more {xs = x} {ys = y} b s) e = sub_last n m f x y s e
sub_last n m f xs ys (keeps {xs = x} {ys = y} a b ka kb l s) e =
    let both = and_parts (implies (n a) (not (has_element x))) (only_last n x) e in
    and_from _ _ (implies_from (m b) (not (has_element y)) (λ h.
    not_of (has_element y) (λ w. true_false (has_element y) w (sub_none m x y s (false_from_ne_true (has_element x) (not_to (has_element x) (implies_of _ _ both.0 (f a b l h))))))))
    (sub_last n m f x y s both.1)
sub_last n m f xs ys (spills {xs = x} a ka z y r fo s eq) e =
    ap (only_last m) (sym eq) ∙ last-⊕ m z y fo (sub_last n m f x y s (and_parts (implies (n a) (not (has_element x))) (only_last n x) e).1)

-- names

ordinary_from : (name : String) → ordinary name ≡ true → From (is name) (is name)
ordinary_from name o a b l e = sym (l.name name o) ∙ e

pub first_none : (name : String) (xs : Nodes) → some_element (is name) xs ≡ false → only_first (is name) xs ≡ true
first_none name no_nodes e = refl
first_none name (bytes b rest) e = first_none name rest e
first_none name (element t k rest) e = ap not (or_parts (is name t) (some_element (is name) rest) e).1

pub sub_first : (name : String) → ordinary name ≡ true → (xs ys : Nodes) → Sub (is name) xs ys → only_first (is name) xs ≡ true → only_first (is name) ys ≡ true
sub_first name o xs ys done e = refl
sub_first name o xs ys (fewer {xs = x} {ys = y} b s) e = sub_first name o x y s e
sub_first name o xs ys (more {xs = x} {ys = y} b s) e = sub_first name o x y s e
sub_first name o xs ys (keeps {xs = x} {ys = y} a b ka kb l s) e =
    ap not (sub_some (is name) (is name) (ordinary_from name o) x y s (not-true (some_element (is name) x) e))
sub_first name o xs ys (spills {xs = x} a ka z y r fo s eq) e =
    ap (only_first (is name)) (sym eq)
    ∙ first_none name (z ⊕ y) (some-⊕ (is name) z y fo (sub_some (is name) (is name) (ordinary_from name o) x y s (not-true (some_element (is name) x) e)))

-- how many elements have this name

abbrev pub add_if : Bool → ℕ → ℕ
add_if true n = suc n
add_if false n = n

abbrev pub count_named : String → Nodes → ℕ
count_named name no_nodes = 0
count_named name (bytes b rest) = count_named name rest
count_named name (element tag kids rest) = add_if (is name tag) (count_named name rest)

abbrev few : ℕ → Bool
few zero = true
few (suc zero) = true
few (suc (suc n)) = false

abbrev some_of : ℕ → Bool
some_of zero = false
some_of (suc n) = true

some-count : (name : String) (xs : Nodes) → some_element (is name) xs ≡ some_of (count_named name xs)
some-count name no_nodes = refl
some-count name (bytes b rest) = some-count name rest
some-count name (element t k rest) = at (is name t) (some-count name rest)
  where
    at : (b : Bool) → some_element (is name) rest ≡ some_of (count_named name rest) → (b || some_element (is name) rest) ≡ some_of (add_if b (count_named name rest))
    at true h = refl
    at false h = h

once-few : (name : String) (xs : Nodes) → once name xs ≡ few (count_named name xs)
once-few name no_nodes = refl
once-few name (bytes b rest) = once-few name rest
once-few name (element t k rest) = at (is name t) (some_element (is name) rest) (once name rest) (count_named name rest) (some-count name rest) (once-few name rest)
  where
    at : (b s o : Bool) (n : ℕ) → s ≡ some_of n → o ≡ few n → (implies b (not s) && o) ≡ few (add_if b n)
    at true s o zero p q = rw (p, q) refl
    at true s o (suc n) p q = rw p refl
    at false s o n p q = q

pub count-⊕ : (name : String) (xs ys : Nodes) → count_named name (xs ⊕ ys) ≡ count_named name xs + count_named name ys
count-⊕ name no_nodes ys = omega arith
count-⊕ name (bytes b rest) ys = count-⊕ name rest ys
count-⊕ name (element t k rest) ys = at (is name t) (count-⊕ name rest ys)
  where
    at : (b : Bool) → count_named name (rest ⊕ ys) ≡ count_named name rest + count_named name ys →
        add_if b (count_named name (rest ⊕ ys)) ≡ add_if b (count_named name rest) + count_named name ys
    at true h = omega arith
    at false h = h

pub count_none : (name : String) (xs : Nodes) → some_element (is name) xs ≡ false → count_named name xs ≡ 0
count_none name no_nodes e = refl
count_none name (bytes b rest) e = count_none name rest e
count_none name (element t k rest) e =
    let both = or_parts (is name t) (some_element (is name) rest) e in
    ap (λ b. add_if b (count_named name rest)) both.0 ∙ count_none name rest both.1

add_same : (b c : Bool) (m n : ℕ) → b ≡ c → m ≤ n → add_if b m ≤ add_if c n
add_same true true m n e h = omega arith
add_same true false m n e h = absurd (true≢false e)
add_same false true m n e h = absurd (true≢false (sym e))
add_same false false m n e h = h

add_more : (c : Bool) (m n : ℕ) → m ≤ n → m ≤ add_if c n
add_more true m n h = omega arith
add_more false m n h = h

pub sub_count : (name : String) → ordinary name ≡ true → (xs ys : Nodes) → Sub (is name) xs ys → count_named name ys ≤ count_named name xs
sub_count name o xs ys done = omega arith
sub_count name o xs ys (fewer {xs = x} {ys = y} b s) = sub_count name o x y s
sub_count name o xs ys (more {xs = x} {ys = y} b s) = sub_count name o x y s
sub_count name o xs ys (keeps {xs = x} {ys = y} a b ka kb l s) =
    add_same (is name b) (is name a) (count_named name y) (count_named name x) (l.name name o) (sub_count name o x y s)
sub_count name o xs ys (spills {xs = x} a ka z y r fo s eq) =
    let ih = sub_count name o x y s in
    let c0 = count_none name z fo in
    let c1 = count-⊕ name z y in
    let c2 : count_named name (z ⊕ y) ≡ count_named name r = ap (count_named name) eq in
    add_more (is name a) (count_named name r) (count_named name x) (omega arith)

less_once : (m n : ℕ) → m ≤ n → few n ≡ true → few m ≡ true
less_once zero n h e = refl
less_once (suc zero) n h e = refl
less_once (suc (suc m)) zero h e = absurd (omega arith)
less_once (suc (suc m)) (suc zero) h e = absurd (omega arith)
less_once (suc (suc m)) (suc (suc n)) h e = e

pub once_less : (name : String) (xs ys : Nodes) → count_named name ys ≤ count_named name xs → once name xs ≡ true → once name ys ≡ true
once_less name xs ys h e = once-few name ys ∙ less_once (count_named name ys) (count_named name xs) h (sym (once-few name xs) ∙ e)

pub sub_once : (name : String) → ordinary name ≡ true → (xs ys : Nodes) → Sub (is name) xs ys → once name xs ≡ true → once name ys ≡ true
sub_once name o xs ys s e = once_less name xs ys (sub_count name o xs ys s) e

-- The pass

drop_all : (n : Tag → Bool) (xs : Nodes) → Sub n xs no_nodes
drop_all n no_nodes = done
drop_all n (bytes b rest) = fewer b (drop_all n rest)
drop_all n (element t k rest) = spills t k no_nodes no_nodes no_nodes refl (drop_all n rest) refl

drop_front : (n : Tag → Bool) (zs xs ys : Nodes) → Sub n xs ys → Sub n (zs ⊕ xs) ys
drop_front n no_nodes xs ys s = s
drop_front n (bytes b rest) xs ys s = fewer b (drop_front n rest xs ys s)
drop_front n (element t k rest) xs ys s = spills t k no_nodes ys ys refl (drop_front n rest xs ys s) refl

same_top : (n : Tag → Bool) (xs : Nodes) → Sub n xs xs
same_top n no_nodes = done
same_top n (bytes b rest) = fewer b (more b (same_top n rest))
same_top n (element t k rest) = keeps t t k k (like_self t) (same_top n rest)

sub_bytes : (n : Tag → Bool) (xs ys zs : Nodes) → has_element zs ≡ false → Sub n xs ys → Sub n xs (zs ⊕ ys)
sub_bytes n xs ys no_nodes e s = s
sub_bytes n xs ys (bytes b rest) e s = more b (sub_bytes n xs ys rest e s)
sub_bytes n xs ys (element t k rest) e s = absurd (true≢false e)

sub-⊕ : (n : Tag → Bool) (xs ys xs2 ys2 : Nodes) → Sub n xs ys → Sub n xs2 ys2 → Sub n (xs ⊕ xs2) (ys ⊕ ys2)
sub-⊕ n xs ys xs2 ys2 done s = s
sub-⊕ n xs ys xs2 ys2 (fewer {xs = x} {ys = y} b t) s = fewer b (sub-⊕ n x y xs2 ys2 t s)
sub-⊕ n xs ys xs2 ys2 (more {xs = x} {ys = y} b t) s = more b (sub-⊕ n x y xs2 ys2 t s)
sub-⊕ n xs ys xs2 ys2 (keeps {xs = x} {ys = y} a b ka kb l t) s = keeps a b ka kb l (sub-⊕ n x y xs2 ys2 t s)
sub-⊕ n xs ys xs2 ys2 (spills {xs = x} a ka z y r fo t eq) s =
    spills a ka z (y ⊕ ys2) (r ⊕ ys2) fo (sub-⊕ n x y xs2 ys2 t s) (sym (⊕_assoc z y ys2) ∙ ap (λ w. w ⊕ ys2) eq)

-- one element as a list: kept, gone, or foreign nodes in its place
pub data One (n : Tag → Bool) (a : Tag) : Nodes → Type 0 where
  stays_one : (b : Tag) (kb : Nodes) → Like a b → One n a (element b kb no_nodes)
  gone_one : One n a no_nodes
  foreign_one : (zs : Nodes) → some_element n zs ≡ false → One n a zs

one_if : (n : Tag → Bool) (a : Tag) (g : Bool) (x : Nodes) → One n a x → One n a (if g then no_nodes else x)
one_if n a true x h = gone_one
one_if n a false x h = h

one_fate : (n : Tag → Bool) (a : Tag) (f : Fate) (ic : Bool) (passed stays : Nodes) → One n a stays → (ic ≡ true → some_element n passed ≡ false) →
    One n a (by_fate f ic passed stays)
one_fate n a Leave ic passed stays h k = h
one_fate n a Free true passed stays h k = foreign_one passed (k refl)
one_fate n a Free false passed stays h k = gone_one
one_fate n a Cut ic passed stays h k = gone_one
one_fate n a Clear ic passed stays h k = gone_one
one_fate n a Restore ic passed stays h k = gone_one
one_fate n a Drop ic passed stays h k = gone_one

pub one_pass : (says : List Say) (n : Tag → Bool) (old : List Tag) (a : Tag) (kids passed : Nodes) → (is_content a.kind ≡ true → some_element n passed ≡ false) →
    One n a (element_pass says old a kids passed)
one_pass says n old a kids passed k =
    one_fate n a (fate_of says a) (is_content a.kind) passed (if goes_at says old a kids then no_nodes else element (renamed says old a) (kept_kids says old a kids passed) no_nodes)
    (one_if n a (goes_at says old a kids) (element (renamed says old a) (kept_kids says old a kids passed) no_nodes)
    (stays_one (renamed says old a) (kept_kids says old a kids passed) (own_renamed says old a).like)) k

sub_one : (n : Tag → Bool) (a : Tag) (ka : Nodes) (zs xs ys : Nodes) → One n a zs → Sub n xs ys → Sub n (element a ka xs) (zs ⊕ ys)
sub_one n a ka zs xs ys (stays_one b kb l) s = keeps a b ka kb l s
sub_one n a ka zs xs ys gone_one s = spills a ka no_nodes ys ys refl s refl
sub_one n a ka zs xs ys (foreign_one w fo) s = spills a ka zs ys (zs ⊕ ys) fo s refl

-- content revisions hold none of these
abbrev pub Foreign : (Tag → Bool) → Type 0
Foreign n = (ancestors : List Tag) (a : Tag) → Free3 ancestors a → is_open ancestors ≡ true → in_content ancestors ≡ true → n a ≡ false

pub some_one : (n : Tag → Bool) → From n n → (a : Tag) (zs : Nodes) → One n a zs → n a ≡ false → some_element n zs ≡ false
some_one n f a zs (stays_one b kb l) e = or_from (n b) false (from_false n n f a b l e) refl
some_one n f a zs gone_one e = refl
some_one n f a zs (foreign_one w fo) e = fo

pub content_each : (says : List Say) (ancestors : List Tag) (nodes : Nodes) → in_content ancestors ≡ true → pass says ancestors nodes ≡ each says ancestors nodes
content_each says [] nodes e = absurd (true≢false (sym e))
content_each says (c ∷ ancestors) nodes e =
    pass-each says (c ∷ ancestors) nodes (in_blocks-reach (c ∷ ancestors) ∙ ap is_direct (reach_trace c ancestors e))

-- so they give none of them
pub foreign_each : (ext : Test) → (says : List Say) (n : Tag → Bool) → From n n → Foreign n → (ancestors : List Tag) (nodes : Nodes) → in_content ancestors ≡ true → is_open ancestors ≡ true → Ground ext ancestors nodes →
    some_element n (each says ancestors nodes) ≡ false
foreign_each ext says n f fo ancestors no_nodes i o g = refl
foreign_each ext says n f fo ancestors (bytes b rest) i o g = foreign_each ext says n f fo ancestors rest i o g
foreign_each ext says n f fo ancestors (element a kids rest) i o g =
    some-⊕ n (element_pass says ancestors a kids (pass says (a ∷ ancestors) kids)) (each says ancestors rest)
    (some_one n f a (element_pass says ancestors a kids (pass says (a ∷ ancestors) kids))
    (one_pass says n ancestors a kids (pass says (a ∷ ancestors) kids) (λ e.
    let w = content_fits ancestors a g.0.fits e in
    ap (some_element n) (content_each says (a ∷ ancestors) kids w.1)
    ∙ foreign_each ext says n f fo (a ∷ ancestors) kids w.1 (open_∷ a ancestors (by_trace (λ t. is_quiet t ≡ false) a w.1 (refl, (refl, (refl, (refl, tt))))) ∙ o) g.1))
    (fo ancestors a (free3 ancestors a kids g.0.rules.rule_3) o i))
    (foreign_each ext says n f fo ancestors rest i o g.2)

-- the nodes of a list, each by itself
sub_each : (ext : Test) → (says : List Say) (n : Tag → Bool) → From n n → Foreign n → (ancestors : List Tag) (nodes : Nodes) → Ground ext ancestors nodes → Sub n nodes (each says ancestors nodes)
sub_each ext says n f fo ancestors no_nodes g = done
sub_each ext says n f fo ancestors (bytes b rest) g = fewer b (more b (sub_each ext says n f fo ancestors rest g))
sub_each ext says n f fo ancestors (element a kids rest) g =
    sub_one n a kids (element_pass says ancestors a kids (pass says (a ∷ ancestors) kids)) rest (each says ancestors rest)
    (one_pass says n ancestors a kids (pass says (a ∷ ancestors) kids) (λ e.
    let w = content_fits ancestors a g.0.fits e in
    ap (some_element n) (content_each says (a ∷ ancestors) kids w.1)
    ∙ foreign_each ext says n f fo (a ∷ ancestors) kids w.1 (open_∷ a ancestors (by_trace (λ t. is_quiet t ≡ false) a w.1 (refl, (refl, (refl, (refl, tt))))) ∙ w.0) g.1))
    (sub_each ext says n f fo ancestors rest g.2)

-- joining paragraphs brings nothing to the top

like_joined : (held : Option Nodes) (tag : Tag) → Like tag (joined_tag held tag)
like_joined None tag = like_self tag
like_joined (Some held) tag = like_close tag tag (like_self tag) (ended tag.close)

sub_settled : (n : Tag → Bool) (ends : Bool) (a b : Tag) (ka kb : Nodes) → Like a b → Sub n (element a ka no_nodes) (unjoined_para ends b kb)
sub_settled n ends a b ka kb l = at (has_element (without (is "pPr") kb)) refl ends
  where
    at : (e : Bool) → has_element (without (is "pPr") kb) ≡ e → (x : Bool) → Sub n (element a ka no_nodes) (if x && not e then without (is "pPr") kb else element b kb no_nodes)
    at true e true = keeps a b ka kb l done
    at true e false = keeps a b ka kb l done
    at false e true = rw ⊕-no_nodes at (sub_bytes n (element a ka no_nodes) no_nodes (without (is "pPr") kb) e (drop_all n (element a ka no_nodes)))
    at false e false = keeps a b ka kb l done

sub_given : (n : Tag → Bool) (p : GroupPiece) (held : Option Nodes) (joining followed : Bool) → Sub n (alone p) (given p held joining followed)
sub_given n (para tag cut kids) held true followed = drop_all n (element tag kids no_nodes)
sub_given n (para tag cut kids) held false followed =
    sub_settled n (cut && followed) tag (joined_tag held tag) kids (joined_kids held kids) (like_joined held tag)
sub_given n (thin nodes) None joining followed = same_top n nodes
sub_given n (thin nodes) (Some held) joining followed = drop_all n nodes
sub_given n (thick nodes) held joining followed = same_top n nodes

sub_grouped : (n : Tag → Bool) (followed : Bool) (held : Option Nodes) (ps : List GroupPiece) → Sub n (all_alone ps) (grouped_from followed held ps)
sub_grouped n followed held [] = done
sub_grouped n followed held (p ∷ ps) =
    sub-⊕ n (alone p) (given p held (joins p ps) (has_thick ps || followed)) (all_alone ps) (grouped_from followed (held_by p held (joins p ps)) ps)
    (sub_given n p held (joins p ps) (has_thick ps || followed)) (sub_grouped n followed (held_by p held (joins p ps)) ps)

-- THE TOP OF A PASSED LIST, in two steps
pub record Tops (n : Tag → Bool) (xs ys : Nodes) : Type 0 where
  pub middle : Nodes
  pub first : Sub n xs middle
  pub second : Sub n middle ys

pub tops : (ext : Test) → (says : List Say) (n : Tag → Bool) → From n n → Foreign n → (ancestors : List Tag) (nodes : Nodes) → Ground ext ancestors nodes → Tops n nodes (pass says ancestors nodes)
tops ext says n f fo ancestors nodes g = record {
  middle = each says ancestors nodes;
  first = sub_each ext says n f fo ancestors nodes g;
  second = rw (all_alone-each says ancestors nodes) at (sub_grouped n false None (pieces says ancestors nodes));
}

-- among properties there is nothing that is freed
pub foreign_shut : (ext : Test) → (says : List Say) (n m : Tag → Bool) → (ancestors : List Tag) (nodes : Nodes) → is_open ancestors ≡ false → Ground ext ancestors nodes → Sub m nodes (each says ancestors nodes)
foreign_shut ext says n m ancestors no_nodes o g = done
foreign_shut ext says n m ancestors (bytes b rest) o g = fewer b (more b (foreign_shut ext says n m ancestors rest o g))
foreign_shut ext says n m ancestors (element a kids rest) o g =
    sub_one m a kids (element_pass says ancestors a kids (pass says (a ∷ ancestors) kids)) rest (each says ancestors rest)
    (one_pass says m ancestors a kids (pass says (a ∷ ancestors) kids) (λ e. absurd (true_false (is_open ancestors) (content_fits ancestors a g.0.fits e).0 o)))
    (foreign_shut ext says n m ancestors rest o g.2)
