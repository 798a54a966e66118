-- Worked rows of the pass of a package, and of the number of its nodes.
use Rattle.std.proofs.Common.{◌≡◌, List, [], ◌∷◌, ℕ, codes, refl}
use Rattle.redl_tree.specs.Model.Count.{count}
use Rattle.redl_tree.specs.Model.Nodes.{Nodes, ◌⊕◌, End}
use Rattle.redl_tree.specs.Decisions.Packages.{pass_package}
use Rattle.redl_tree.specs.Model.Text.{text}
use Rattle.redl_tree.specs.declared.kinds.Kind.TheVariants.{Content}
use Rattle.redl_tree.specs.declared.kinds.Say.{Say}
use Rattle.redl_tree.specs.declared.kinds.Say.TheVariants.{Keep, Accept, Reject}
use Rattle.redl_tree.specs.declared.kinds.Trace.TheVariants.{Ins, Del}
use Rattle.redl_tree.proofs.Model.Build.{opened, member, content, run, deleted_run, packaged, part_of, package_of}

-- the text of a package of one document after the pass
abbrev decided : List Say → Nodes → List ℕ
decided says body = text (pass_package says (package_of body))

abbrev inserted : Nodes
inserted = content Ins 1 "ins" "" (run "a")

insertion_left :
    decided (Keep ∷ []) inserted
    ≡ codes "<pkg:package><pkg:part><pkg:xmlData><w:document><w:body><w:ins><w:r><w:t>a</w:t></w:r></w:ins></w:body></w:document></pkg:xmlData></pkg:part></pkg:package>"
insertion_left = refl

insertion_freed :
    decided (Accept ∷ []) inserted
    ≡ codes "<pkg:package><pkg:part><pkg:xmlData><w:document><w:body><w:r><w:t>a</w:t></w:r></w:body></w:document></pkg:xmlData></pkg:part></pkg:package>"
insertion_freed = refl

insertion_cut :
    decided (Reject ∷ []) inserted
    ≡ codes "<pkg:package><pkg:part><pkg:xmlData><w:document><w:body></w:body></w:document></pkg:xmlData></pkg:part></pkg:package>"
insertion_cut = refl

-- deleted text under an inner deletion that is freed and an outer one that is left, and under two that are freed
abbrev deleted_twice : Nodes
deleted_twice = content Del 1 "del" "" (content Del 2 "del" "" (deleted_run "b"))

text_stays_deleted_in_left_deletion :
    decided (Keep ∷ Reject ∷ []) deleted_twice
    ≡ codes "<pkg:package><pkg:part><pkg:xmlData><w:document><w:body><w:del><w:r><w:delText>b</w:delText></w:r></w:del></w:body></w:document></pkg:xmlData></pkg:part></pkg:package>"
text_stays_deleted_in_left_deletion = refl

text_lives_where_both_are_freed :
    decided (Reject ∷ Reject ∷ []) deleted_twice
    ≡ codes "<pkg:package><pkg:part><pkg:xmlData><w:document><w:body><w:r><w:t>b</w:t></w:r></w:body></w:document></pkg:xmlData></pkg:part></pkg:package>"
text_lives_where_both_are_freed = refl

-- each story is passed, and a part that is no story stays
abbrev three_parts : Nodes
three_parts =
    packaged "package" (part_of (opened "document" inserted)
    ⊕ part_of (opened "styles" inserted)
    ⊕ part_of (opened "hdr" inserted))

other_parts_stay :
    text (pass_package (Reject ∷ []) three_parts)
    ≡ codes "<pkg:package><pkg:part><pkg:xmlData><w:document></w:document></pkg:xmlData></pkg:part><pkg:part><pkg:xmlData><w:styles><w:ins><w:r><w:t>a</w:t></w:r></w:ins></w:styles></pkg:xmlData></pkg:part><pkg:part><pkg:xmlData><w:hdr></w:hdr></pkg:xmlData></pkg:part></pkg:package>"
other_parts_stay = refl

-- the root of a story stays, whatever it is
root_of_a_story_stays :
    text (pass_package (Reject ∷ []) (packaged "package" (part_of (member (Content Ins) 1 "ftr" "" (End []) (run "a")))))
    ≡ codes "<pkg:package><pkg:part><pkg:xmlData><w:ftr><w:r><w:t>a</w:t></w:r></w:ftr></pkg:xmlData></pkg:part></pkg:package>"
root_of_a_story_stays = refl

-- what stands in the place of a story, but not in a package
story_outside_a_package : pass_package (Reject ∷ []) (opened "document" inserted) ≡ opened "document" inserted
story_outside_a_package = refl

-- The number of nodes, which bounds the steps: of the original, and of what is left where the insertion is cut.

steps_at_most : count (package_of inserted) ≡ 9
steps_at_most = refl

steps_at_least : count (pass_package (Reject ∷ []) (package_of inserted)) ≡ 5
steps_at_least = refl
