-- The verdicts and the says of a book for the revisions of a package.
use Rattle.std.specs.Prelude.{ℕ, List, map}
use Rattle.std.specs.List.{range_with_len}
use Rattle.redl_join.specs.Verdicts.{verdict_at}
use Rattle.redl_join.specs.declared.verdict.Verdict.{Verdict}
use Rattle.redl_join.specs.declared.verdict.Verdict.TheVariants as verdict
use Rattle.redl_journal.specs.declared.entry.Entry.{Entry}
use Rattle.redl_tree.specs.declared.kinds.Say.{Say}
use Rattle.redl_tree.specs.declared.kinds.Say.TheVariants as say

-- the verdicts on the revisions 1 to count
abbrev pub verdicts_of : List Entry → ℕ → List Verdict
verdicts_of book count = map (verdict_at book) (range_with_len 1 count)

-- disputed and open revisions are kept
abbrev pub say_of_verdict : Verdict → Say
say_of_verdict verdict.Undecided = say.Keep
say_of_verdict verdict.Accept = say.Accept
say_of_verdict verdict.Reject = say.Reject
say_of_verdict verdict.Disputed = say.Keep

-- the says for the revisions 1 to count
abbrev pub says_of : List Entry → ℕ → List Say
says_of book count = map (λ rev. say_of_verdict (verdict_at book rev)) (range_with_len 1 count)
