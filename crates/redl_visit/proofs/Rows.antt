-- Worked rows of visits.
use Rattle.std.proofs.Common.{◌≡◌, refl, ℕ, ◌+◌, List, [], ◌∷◌, ◌++◌, length, codes}
use Rattle.redl_tree.specs.Model.Nodes.{Tag, Nodes, no_nodes, Empty, End, ◌⊕◌}
use Rattle.redl_tree.specs.declared.kinds.Kind.TheVariants.{Plain}
use Rattle.redl_tree.proofs.Model.Build.{opened, closed, member, words, run}
use Rattle.redl_visit.specs.Visits.{VisitRule, visited}
use Rattle.redl_visit.specs.Pairs.{both_rule}
use Rattle.redl_visit.specs.Labelling.{LabelRule, relabelled}

-- <p><r><t>a</t></r><b/></p>c<q/>
abbrev nodes : Nodes
nodes = opened "p" (run "a" ⊕ closed "b" "") ⊕ words "c" ⊕ closed "q" ""

-- the ancestors summed up by how many they are
abbrev deeper : Tag → ℕ → ℕ
deeper tag depth = depth + 1

-- writes the name of each element before its kids, and a dot after them
abbrev names : VisitRule ℕ ℕ (List ℕ)
names = record {
  below = λ here own tag kids s. own;
  enter = λ here own tag kids s. s ++ tag.local;
  leave = λ here below tag kids s. s ++ codes ".";
}

-- lists before the kids of each element how many ancestors it has, and after them what was handed down to them: how long the list was
abbrev depths : VisitRule ℕ ℕ (List ℕ)
depths = record {
  below = λ here own tag kids s. length s;
  enter = λ here own tag kids s. s ++ here ∷ [];
  leave = λ here below tag kids s. s ++ below ∷ [];
}

visited_in_the_order_of_the_text : visited deeper names 0 0 nodes [] ≡ codes "prt..b..q."
visited_in_the_order_of_the_text = refl

each_end_gets_what_its_start_handed_down : visited deeper depths 0 0 nodes [] ≡ 0 ∷ 1 ∷ 2 ∷ 2 ∷ 1 ∷ 1 ∷ 5 ∷ 0 ∷ 0 ∷ 8 ∷ []
each_end_gets_what_its_start_handed_down = refl

two_in_one_visit : visited deeper (both_rule names depths) 0 (0, 0) (closed "b" "") ([], []) ≡ (codes "b.", 0 ∷ 0 ∷ [])
two_in_one_visit = refl

-- numbers the elements
abbrev numbers : LabelRule ℕ ℕ ℕ
numbers = record {
  below = λ here own tag kids s. own;
  enter = λ here own tag kids s. s + 1;
  leave = λ s. s;
  label = λ here own tag kids s. record { kind = tag.kind; rev = s };
}

labelled_in_the_order_of_start_tags :
    relabelled deeper numbers 0 0 nodes 7
    ≡ member Plain 7 "p" "" (End []) (member Plain 8 "r" "" (End []) (member Plain 9 "t" "" (End []) (words "a")) ⊕ member Plain 10 "b" "" Empty no_nodes)
    ⊕ words "c"
    ⊕ member Plain 11 "q" "" Empty no_nodes
labelled_in_the_order_of_start_tags = refl
