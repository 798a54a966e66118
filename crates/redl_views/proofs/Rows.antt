-- Worked rows: the plain text of the pass, and the walk over the original, by computing.
use Prim.Native.String.{String}
use Rattle.std.proofs.Common.{◌≡◌, ℕ, List, replicate, codes, refl}
use Rattle.redl_tree.specs.Model.Nodes.{Nodes, no_nodes, Empty, ◌⊕◌}
use Rattle.redl_tree.specs.Decisions.Packages.{pass_package}
use Rattle.redl_tree.specs.declared.kinds.Say.{Say}
use Rattle.redl_tree.specs.declared.kinds.Say.TheVariants.{Accept, Reject}
use Rattle.redl_tree.specs.declared.kinds.Trace.{Trace}
use Rattle.redl_tree.specs.declared.kinds.Trace.TheVariants.{Ins, Del}
use Rattle.redl_tree.specs.declared.kinds.Kind.TheVariants.{Mark, Row}
use Rattle.redl_tree.proofs.Model.Build.{opened, closed, member, content, words, run, deleted_run, package_of}
use Rattle.redl_grammar.specs.References.{reference_at, named_at, number_at}
use Rattle.redl_grammar.specs.Characters.{is_character}
use Rattle.redl_shown.specs.Shown.{shown}
use Rattle.redl_views.specs.PlainText.{plain_text}
use Rattle.redl_views.specs.Views.{view_text}
use lib.Utf8.{encode}

-- what the whole pass shows, where every revision gets the same say
abbrev passed : Say → Nodes → List ℕ
passed say body = plain_text shown (pass_package (replicate 3 say) (package_of body))

-- the same by the walk over the original
abbrev viewed : Say → Nodes → List ℕ
viewed say body = view_text shown (replicate 3 say) (package_of body)

-- both show this text
abbrev Shows : Say → Nodes → String → Type 0
Shows say body text = (passed say body ≡ codes text) × (viewed say body ≡ codes text)

-- a paragraph whose mark is in this revision
abbrev marked : Trace → ℕ → String → Nodes → Nodes
marked trace number name kids =
    opened "p" (opened "pPr" (opened "rPr" (member (Mark trace) number name "" Empty no_nodes)) ⊕ kids)

insertion : Nodes
insertion = opened "p" (content Ins 1 "ins" "" (run "a"))

inserted : Shows Accept insertion "a\n" × Shows Reject insertion "\n"
unfolding insertion
inserted = ((refl, refl), (refl, refl))

deletion : Nodes
deletion = opened "p" (content Del 1 "del" "" (deleted_run " b "))

deleted : Shows Accept deletion "\n" × Shows Reject deletion " b \n"
unfolding deletion
deleted = ((refl, refl), (refl, refl))

three_paragraphs : Nodes
three_paragraphs =
    marked Del 1 "del" (run "a") ⊕ closed "bookmarkStart" "" ⊕ marked Ins 2 "ins" (run "b") ⊕ opened "p" no_nodes

joined : Shows Accept three_paragraphs "ab\n\n" × Shows Reject three_paragraphs "a\nb\n"
unfolding three_paragraphs
joined = ((refl, refl), (refl, refl))

before_table : Nodes → Nodes
before_table kept =
    marked Del 1 "del" (content Del 2 "del" "" (deleted_run "x") ⊕ kept)
    ⊕ opened "tbl" (opened "tr" (opened "trPr" (member (Row Del) 3 "del" "" Empty no_nodes) ⊕ opened "tc" (closed "p" "")))
    ⊕ closed "p" ""

emptied : Shows Accept (before_table (run "k")) "k\n\n" × Shows Reject (before_table (run "k")) "xk\n\n\n"
unfolding before_table
emptied = ((refl, refl), (refl, refl))

gone_before_table : Shows Accept (before_table no_nodes) "\n" × Shows Reject (before_table no_nodes) "x\n\n\n"
unfolding before_table
gone_before_table = ((refl, refl), (refl, refl))

references : Nodes
references =
    opened "p" (opened "r" (opened "t" (words "x &lt; y<!-- n -->") ⊕ closed "tab" "" ⊕ opened "t" (words "z")))

characters : Shows Accept references "x < y\tz\n" × Shows Reject references "x < y\tz\n"
unfolding references reference_at named_at number_at is_character encode
characters = ((refl, refl), (refl, refl))
