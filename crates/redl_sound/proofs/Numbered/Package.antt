-- The numbers in a package that is numbered already, a part after the other.
use Rattle.std.proofs.Common.{◌≡◌, ◌∙◌, ◌⊎◌, inl, inr, refl, ap, sym, subst, ℕ, zero, suc, ◌+◌, ◌-◌, ◌<◌, ◌≤◌, nat_lt, Bool, true, false, List, [], ◌∷◌, ◌++◌, map, filter_map, length, slice_get, Option, Some, None, option_and_then, append_assoc, length-append, arith}
use Rattle.std.specs.List.{cons_option}
use Rattle.std.proofs.lemmas.Option.{slice_get_within, same_Some}
use Rattle.redl_tree.specs.Decisions.Packages.{stories, changed_stories}
use Rattle.redl_tree.specs.Model.Nodes.{Nodes, no_nodes}
use Rattle.redl_tree.specs.Model.Seen.{Seen, seen}
use Rattle.redl_tree.specs.Revisions.Numbers.{labelled_story, next_after_story, number_rule}
use Rattle.redl_tree.proofs.Revisions.NumberLaws.{stories-numbered, numbered-indexed, unlabelled-numbered}
use Rattle.redl_opc.specs.Elements.{Element}
use Rattle.redl_opc.specs.Parts.{story}
use Rattle.redl_opc.specs.Shape.{parts_of, story_of, refusal}
use Rattle.redl_opc.proofs.LabelLaws.{refusal-unlabelled}
use Rattle.redl_opc.proofs.StoryLaws.{stories-parts}
use Rattle.redl_stamp.specs.Attribute.{attribute_value}
use Rattle.redl_index.specs.Mentions.{Mention, mentions}
use Rattle.redl_index.specs.Numbers.{numbered_package}
use Rattle.redl_index.specs.Revisions.{firsts, revision_of, story_revisions, revisions_in, revisions_from, numbered, revisions_of}
use Rattle.redl_index.specs.declared.revision.Revision.{Revision}
use Rattle.redl_index.proofs.AgainLaws.{revisions-numbered}
use Rattle.redl_index.proofs.RevisionLaws.{length-numbered, numbered-append, length-in}
use Rattle.redl_sound.specs.Names.{Names, HasNumber, StandsBefore, NumbersNameIn, NumbersName}
use Rattle.redl_sound.proofs.Numbered.Lists.{IsPlaced, contains, placed, at-left, at-right, there-is}
use Rattle.redl_sound.proofs.Numbered.Story.{IsNone, IsNamed, story-named, story-each, story-apart}

lt-true : (a b : ℕ) → nat_lt a b ≡ true → a < b
lt-true a b e = grind (arith, e)

lt-false : (a b : ℕ) → nat_lt a b ≡ false → b ≤ a
lt-false a b e = grind (arith, e)

-- ---- the parts of revisions

-- the parts of these are below that one
abbrev Below : ℕ → List Revision → Type 0
Below part [] = Unit {0}
Below part (r ∷ rs) = (r.part < part) × Below part rs

-- the parts rise along the list, from this one on
abbrev Rise : ℕ → List Revision → Type 0
Rise part [] = Unit {0}
Rise part (r ∷ rs) = (part ≤ r.part) × Rise r.part rs

below-both : (part : ℕ) (xs ys : List Revision) → Below part xs → Below part ys → Below part (xs ++ ys)
below-both part [] ys b c = c
below-both part (x ∷ xs) ys b c = (b.0, below-both part xs ys b.1 c)

below-more : (part more : ℕ) (xs : List Revision) → part ≤ more → Below part xs → Below more xs
below-more part more [] h b = tt
below-more part more (x ∷ xs) h b = (omega (arith, h, b.0), below-more part more xs h b.1)

below-at : (part : ℕ) (xs : List Revision) (place : ℕ) (r : Revision) → Below part xs → slice_get xs place ≡ Some r → r.part < part
below-at part [] place r b at = absurd (cc)
below-at part (x ∷ xs) zero r b at =
    let is : x ≡ r = cc in
    let P : Revision → Type 0 = λ y. y.part < part in
    subst P is b.0
below-at part (x ∷ xs) (suc place) r b at = below-at part xs place r b.1 at

rise-lower : (less part : ℕ) (xs : List Revision) → less ≤ part → Rise part xs → Rise less xs
rise-lower less part [] h b = tt
rise-lower less part (x ∷ xs) h b = (omega (arith, h, b.0), b.1)

rise-at : (part : ℕ) (xs : List Revision) (place : ℕ) (r : Revision) → Rise part xs → slice_get xs place ≡ Some r → part ≤ r.part
rise-at part [] place r b at = absurd (cc)
rise-at part (x ∷ xs) zero r b at =
    let is : x ≡ r = cc in
    let P : Revision → Type 0 = λ y. part ≤ y.part in
    subst P is b.0
rise-at part (x ∷ xs) (suc place) r b at = omega (arith, b.0, rise-at x.part xs place r b.1 at)

rises : (part : ℕ) (xs : List Revision) (lower higher : ℕ) (one other : Revision) → Rise part xs → lower < higher → slice_get xs lower ≡ Some one
    → slice_get xs higher ≡ Some other → one.part ≤ other.part
rises part [] lower higher one other b h at there = absurd (cc)
rises part (x ∷ xs) zero zero one other b h at there = absurd (omega (arith, h))
rises part (x ∷ xs) zero (suc higher) one other b h at there =
    let is : x ≡ one = cc in
    let P : Revision → Type 0 = λ y. y.part ≤ other.part in
    subst P is (rise-at x.part xs higher other b.1 there)
rises part (x ∷ xs) (suc lower) zero one other b h at there = absurd (omega (arith, h))
rises part (x ∷ xs) (suc lower) (suc higher) one other b h at there = rises x.part xs lower higher one other b.1 (omega (arith, h)) at there

module _ (part : ℕ) (among : List Mention) where
  story-below : (n : ℕ) (ms : List Mention) → Below (part + 1) (numbered n (map (revision_of part among) ms))
  story-below n [] = tt
  story-below n (m ∷ ms) = (omega arith, story-below (n + 1) ms)

  story-rises : (n : ℕ) (ms : List Mention) (ys : List Revision) → Rise (part + 1) ys → Rise part (numbered n (map (revision_of part among) ms) ++ ys)
  story-rises n [] ys b = rise-lower part (part + 1) ys (omega arith) b
  story-rises n (m ∷ ms) ys b = (omega arith, story-rises (n + 1) ms ys b)

parts-rise : (k n : ℕ) (parts : List Element) → Rise k (numbered n (revisions_from k parts))
parts-rise k n [] = tt
parts-rise k n (part ∷ later) = by (story_of part) (λ next. parts-rise (k + 1) next later)
  where
    by : (root : Option Element) → ((next : ℕ) → Rise (k + 1) (numbered next (revisions_from (k + 1) later)))
        → Rise k (numbered n (revisions_in k root ++ revisions_from (k + 1) later))
    by None more = rise-lower k (k + 1) (numbered n (revisions_from (k + 1) later)) (omega arith) (more n)
    by (Some root) more =
        let here = story_revisions k root.tag root.kids in
        subst (Rise k) (sym (numbered-append n here (revisions_from (k + 1) later)))
        (story-rises k (mentions root.tag root.kids) n (firsts [] (mentions root.tag root.kids)) (numbered (n + length here) (revisions_from (k + 1) later)) (more (n + length here)))

-- ---- the story of each part

-- the revisions of the story with this root stand in the list, and its elements have their numbers
pub record HasStory (revisions : List Revision) (part : ℕ) (root : Element) : Type 0 where
  pub front : List Revision
  pub back : List Revision
  pub base : ℕ
  pub counts : base ≡ 1 + length front
  pub splits : revisions ≡ front ++ (numbered base (story_revisions part root.tag root.kids) ++ back)
  pub apart : Below part front
  pub labelled : labelled_story attribute_value base root.tag root.kids ≡ root.kids

-- the revision at this place is that of a part, whose story has it
pub record HasOwner (revisions : List Revision) (k : ℕ) (parts : List Element) (wanted : ℕ) : Type 0 where
  pub at : ℕ
  pub part : Element
  pub root : Element
  pub is_part : slice_get parts at ≡ Some part
  pub is_story : story_of part ≡ Some root
  pub has : HasStory revisions (k + at) root
  pub place : ℕ
  pub within : place < length (numbered has.base (story_revisions (k + at) root.tag root.kids))
  pub number : has.base + place ≡ wanted

abbrev first_kids : List Element → Nodes
first_kids [] = no_nodes
first_kids (story ∷ later) = story.kids

abbrev later_ones : List Element → List Element
later_ones [] = []
later_ones (story ∷ later) = later

abbrev stories_in : List Element → List Element
stories_in parts = filter_map story_of parts

module _ (revisions : List Revision) where
  abbrev HaveStories : ℕ → List Element → Type 0
  HaveStories k parts = (i : ℕ) (part root : Element) → slice_get parts i ≡ Some part → story_of part ≡ Some root → HasStory revisions (k + i) root

  abbrev HaveOwners : ℕ → ℕ → List Element → Type 0
  HaveOwners k next parts = (place : ℕ) → place < length (revisions_from k parts) → HasOwner revisions k parts (next + place)

  one-further : (k : ℕ) (part : Element) (later : List Element) (number : ℕ) → HasOwner revisions (k + 1) later number → HasOwner revisions k (part ∷ later) number
  one-further k part later number o =
      let is : (k + 1) + o.at ≡ k + suc o.at = omega arith in
      let P : ℕ → Type 0 = λ n. (h : HasStory revisions n o.root) × (o.place < length (numbered h.base (story_revisions n o.root.tag o.root.kids))) × (h.base + o.place ≡ number) in
      let moved = subst P is (o.has, o.within, o.number) in
      record { at = suc o.at; part = o.part; root = o.root; is_part = o.is_part; is_story = o.is_story; has = moved.0; place = o.place; within = moved.1; number = moved.2 }

  owner-here : (k : ℕ) (part : Element) (later : List Element) (root : Element) (number : ℕ) → story_of part ≡ Some root → (h : HasStory revisions k root) (place : ℕ)
      → place < length (numbered h.base (story_revisions k root.tag root.kids)) → h.base + place ≡ number → HasOwner revisions k (part ∷ later) number
  owner-here k part later root number is h place within numbered_so =
      let none : k ≡ k + 0 = omega arith in
      let P : ℕ → Type 0 = λ n. (h : HasStory revisions n root) × (place < length (numbered h.base (story_revisions n root.tag root.kids))) × (h.base + place ≡ number) in
      let moved = subst P none (h, within, numbered_so) in
      record { at = 0; part = part; root = root; is_part = refl; is_story = is; has = moved.0; place = place; within = moved.1; number = moved.2 }

  walk-parts : (k next : ℕ) (front : List Revision) (parts : List Element) → changed_stories (number_rule attribute_value) next (stories_in parts) ≡ stories_in parts
      → next ≡ 1 + length front → revisions ≡ front ++ numbered next (revisions_from k parts) → Below k front → HaveStories k parts × HaveOwners k next parts
  walk-parts k next front [] same counts splits below = (none, λ place within. absurd (omega (arith, within)))
    where
      none : HaveStories k []
      none i part root at is = absurd (cc)
  walk-parts k next front (part ∷ later) same counts splits below =
      by (story_of part) refl same splits (λ n f s c d b. walk-parts (k + 1) n f later s c d b)
    where
      Rest : Type 0
      Rest = (n : ℕ) (f : List Revision) → changed_stories (number_rule attribute_value) n (stories_in later) ≡ stories_in later → n ≡ 1 + length f
          → revisions ≡ f ++ numbered n (revisions_from (k + 1) later) → Below (k + 1) f → HaveStories (k + 1) later × HaveOwners (k + 1) n later

      none-more : (k : ℕ) → k ≡ k + 0
      none-more k = omega arith

      further : HaveStories (k + 1) later → ((root : Element) → story_of part ≡ Some root → HasStory revisions k root) → HaveStories k (part ∷ later)
      further more here zero p root at is =
          let it : part ≡ p = cc in
          let P : ℕ → Type 0 = λ n. HasStory revisions n root in
          subst P (none-more k) (here root (ap story_of it ∙ is))
      further more here (suc i) p root at is =
          let number : (k + 1) + i ≡ k + suc i = omega arith in
          let P : ℕ → Type 0 = λ n. HasStory revisions n root in
          subst P number (more i p root at is)

      by : (o : Option Element) → story_of part ≡ o
          → changed_stories (number_rule attribute_value) next (cons_option o (filter_map story_of later)) ≡ cons_option o (filter_map story_of later)
          → revisions ≡ front ++ numbered next (revisions_in k o ++ revisions_from (k + 1) later) → Rest
          → HaveStories k (part ∷ later) × ((place : ℕ) → place < length (revisions_in k o ++ revisions_from (k + 1) later) → HasOwner revisions k (part ∷ later) (next + place))
      by None is same splits rest =
          let more = rest next front same counts splits (below-more k (k + 1) front (omega arith) below) in (
            further more.0 (λ root e. let no : None ≡ Some root = sym is ∙ e in absurd (cc)),
            λ place within. one-further k part later (next + place) (more.1 place within),
          )
      by (Some root) is same splits rest =
          let after = next_after_story attribute_value next root.tag root.kids in
          let labelled : labelled_story attribute_value next root.tag root.kids ≡ root.kids = ap first_kids same in
          let behind : changed_stories (number_rule attribute_value) after (stories_in later) ≡ stories_in later = ap later_ones same in
          let counted : next + length here ≡ after = length-in k next (Some root) in
          let front_here = front ++ numbered next here in
          let split : revisions ≡ front ++ (numbered next here ++ numbered after (revisions_from (k + 1) later)) =
          splits ∙ ap (λ l. front ++ l) (numbered-append next here (revisions_from (k + 1) later) ∙ ap (λ n. numbered next here ++ numbered n (revisions_from (k + 1) later)) counted) in
          let own : HasStory revisions k root =
          record { front = front; back = numbered after (revisions_from (k + 1) later); base = next; counts = counts; splits = split; apart = below; labelled = labelled } in
          let more =
          rest after front_here behind
          (omega (arith, counts, counted, length-append front (numbered next here), length-numbered next here))
          (split ∙ sym (append_assoc front (numbered next here) (numbered after (revisions_from (k + 1) later))))
          (below-both (k + 1) front (numbered next here) (below-more k (k + 1) front (omega arith) below) (story-below k (mentions root.tag root.kids) next (firsts [] (mentions root.tag root.kids)))) in
          (further more.0 (λ other e. let it : root ≡ other = cc in subst (HasStory revisions k) it own), owner own refl counted more.1)
        where
          here : List (ℕ → Revision)
          here = story_revisions k root.tag root.kids

          owner : (own : HasStory revisions k root) → own.base ≡ next → (counted : next + length here ≡ next_after_story attribute_value next root.tag root.kids)
              → HaveOwners (k + 1) (next_after_story attribute_value next root.tag root.kids) later
              → (place : ℕ) → place < length (here ++ revisions_from (k + 1) later) → HasOwner revisions k (part ∷ later) (next + place)
          owner own is_base counted more place within = split (nat_lt place (length here)) refl
            where
              split : (b : Bool) → nat_lt place (length here) ≡ b → HasOwner revisions k (part ∷ later) (next + place)
              split true e =
                  owner-here k part later root (next + place) is own place (omega (arith, lt-true place (length here) e, length-numbered own.base here)) (ap (λ n. n + place) is_base)
              split false e =
                  let behind : length here ≤ place = lt-false place (length here) e in
                  let number : next_after_story attribute_value next root.tag root.kids + (place - length here) ≡ next + place = omega (arith, counted, behind) in
                  let inside : place - length here < length (revisions_from (k + 1) later) = omega (arith, within, behind, length-append here (revisions_from (k + 1) later)) in
                  subst (HasOwner revisions k (part ∷ later)) number (one-further k part later _ (more (place - length here) inside))

-- ---- a package

abbrev AllStories : Nodes → Type 0
AllStories nodes = HaveStories (revisions_of nodes) 0 (parts_of nodes) × HaveOwners (revisions_of nodes) 0 1 (parts_of nodes)

module _ (nodes : Nodes) (shape : refusal nodes ≡ None) (is : numbered_package nodes ≡ nodes) where
  all-stories : AllStories nodes
  all-stories =
      let same : changed_stories (number_rule attribute_value) 1 (stories nodes) ≡ stories nodes = sym (stories-numbered attribute_value nodes) ∙ ap stories is in
      let P : List Element → Type 0 = λ xs. changed_stories (number_rule attribute_value) 1 xs ≡ xs in
      walk-parts (revisions_of nodes) 0 1 [] (parts_of nodes) (subst P (sym (stories-parts nodes shape)) same) refl refl tt

  story-of : (part : ℕ) (root : Element) → story nodes part ≡ Some root → HasStory (revisions_of nodes) part root
  story-of part root there = by (slice_get (parts_of nodes) part) refl there
    where
      none : 0 + part ≡ part
      none = omega arith

      by : (o : Option Element) → slice_get (parts_of nodes) part ≡ o → option_and_then story_of o ≡ Some root → HasStory (revisions_of nodes) part root
      by None at e = absurd (cc)
      by (Some p) at e = let P : ℕ → Type 0 = λ n. HasStory (revisions_of nodes) n root in subst P none (all-stories.0 part p root at e)

  module _ (part : ℕ) (root : Element) (has : HasStory (revisions_of nodes) part root) where
    abbrev elements : List Seen
    elements = seen root.tag root.kids

    abbrev here : List Revision
    here = numbered has.base (story_revisions part root.tag root.kids)

    number-is : (place : ℕ) → has.base + place ≡ suc (length has.front + place)
    number-is place = omega (arith, has.counts)

    listed : (place : ℕ) (r : Revision) → slice_get here place ≡ Some r → slice_get (revisions_of nodes) (length has.front + place) ≡ Some r
    listed place r at =
        ap (λ l. slice_get l (length has.front + place)) has.splits
        ∙ at-right has.front (here ++ has.back) place r (at-left here has.back place r at)

    named-so : (x : Seen) → IsNamed has.base part elements here x → NumbersNameIn (revisions_of nodes) part elements x
    named-so x named = record {
      none = (λ e. absurd (omega (arith, e, named.number, has.counts)), λ e. absurd (named.kind e));
      named = λ place e. names place (omega (arith, e, named.number, number-is named.place));
      before = before;
    }
      where
        names : (place : ℕ) → place ≡ length has.front + named.place → Names (revisions_of nodes) part elements x place
        names place e = record {
          revision = named.names.revision;
          listed = ap (slice_get (revisions_of nodes)) e ∙ listed named.place named.names.revision named.names.listed;
          is_part = named.names.is_part;
          told = named.names.told;
        }

        before : (place lower : ℕ) (revision : Revision) → x.own.tag.rev ≡ suc place → lower < place → slice_get (revisions_of nodes) lower ≡ Some revision
            → revision.part ≡ part → StandsBefore elements (suc lower) x.own.start
        before place lower revision e below at in_part = by (nat_lt lower (length has.front)) refl
          where
            by : (b : Bool) → nat_lt lower (length has.front) ≡ b → StandsBefore elements (suc lower) x.own.start
            by true in_front =
                let there = there-is has.front lower (lt-true lower (length has.front) in_front) in
                let at_front : slice_get (revisions_of nodes) lower ≡ Some there.0 = ap (λ l. slice_get l lower) has.splits ∙ at-left has.front (here ++ has.back) lower there.0 there.1 in
                let same = same_Some there.0 revision (sym at_front ∙ at) in
                let lower_part = below-at part has.front lower there.0 has.apart there.1 in
                absurd (omega (arith, lower_part, ap (λ (r : Revision). r.part) same, in_part))
            by false behind =
                let from = lt-false lower (length has.front) behind in
                let number : has.base + (lower - length has.front) ≡ suc lower = omega (arith, from, has.counts) in
                subst (λ n. StandsBefore elements n x.own.start) number
                (named.before (lower - length has.front) (omega (arith, from, below, e, named.number, has.counts)))

    numbers-here : (x : Seen) → IsPlaced elements x → NumbersNameIn (revisions_of nodes) part elements x
    numbers-here x at = by (story-named has.base part root.tag root.kids has.labelled (omega (arith, has.counts)) x at)
      where
        by : IsNone x ⊎ IsNamed has.base part elements here x → NumbersNameIn (revisions_of nodes) part elements x
        by (inl none) = record {
          none = (λ e. none.kind, λ e. none.number);
          named = λ place e. absurd (omega (arith, e, none.number));
          before = λ place lower revision e. absurd (omega (arith, e, none.number));
        }
        by (inr named) = named-so x named

  each-number : (place : ℕ) (revision : Revision) → slice_get (revisions_of nodes) place ≡ Some revision → HasNumber nodes revision.part (suc place)
  each-number place revision at =
      let owner = all-stories.1 place (omega (arith, slice_get_within (revisions_of nodes) place revision at, length-numbered 1 (revisions_from 0 (parts_of nodes)))) in
      let none : 0 + owner.at ≡ owner.at = omega arith in
      let found = story-each owner.has.base (0 + owner.at) owner.root.tag owner.root.kids owner.has.labelled owner.place owner.within in
      let number : found.0.own.tag.rev ≡ suc place = omega (arith, found.2, owner.number) in
      let names = (numbers-here (0 + owner.at) owner.root owner.has found.0 found.1).named place number in
      let same = same_Some names.revision revision (sym names.listed ∙ at) in
      let part : 0 + owner.at ≡ revision.part = sym names.is_part ∙ ap (λ (r : Revision). r.part) same in
      record {
        root = owner.root;
        is_story = ap (λ n. story nodes n) (sym part ∙ none) ∙ ap (option_and_then story_of) owner.is_part ∙ owner.is_story;
        element = found.0;
        among = contains (seen owner.root.tag owner.root.kids) found.0 found.1;
        number = number;
      }

  pub numbers-name : NumbersName nodes (revisions_of nodes)
  numbers-name = record {
    elements = λ part root x there among. numbers-here part root (story-of part root there) x (placed (seen root.tag root.kids) x among);
    each = each-number;
    apart = λ part root there one other among also.
        story-apart (story-of part root there).base part root.tag root.kids (story-of part root there).labelled one other
        (placed (seen root.tag root.kids) one among) (placed (seen root.tag root.kids) other also);
    rising = λ lower higher one other. rises 0 (revisions_of nodes) lower higher one other (parts-rise 0 1 (parts_of nodes));
  }

-- numbering keeps the shape of a package
pub shape-numbered : (nodes : Nodes) → refusal nodes ≡ None → refusal (numbered_package nodes) ≡ None
shape-numbered nodes shape =
    sym (refusal-unlabelled (numbered_package nodes)) ∙ ap refusal (unlabelled-numbered attribute_value nodes) ∙ refusal-unlabelled nodes ∙ shape

-- a package that was numbered is such a one
pub numbers-name-numbered : (nodes : Nodes) → refusal nodes ≡ None → NumbersName (numbered_package nodes) (revisions_of nodes)
numbers-name-numbered nodes shape =
    subst (NumbersName (numbered_package nodes)) (revisions-numbered nodes)
    (numbers-name (numbered_package nodes) (shape-numbered nodes shape) (numbered-indexed attribute_value nodes))
