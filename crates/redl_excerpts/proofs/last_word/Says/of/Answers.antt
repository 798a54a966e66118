-- One word more.
use Rattle.std.proofs.Common.{◌∙◌, sym, subst, All, arith}
use Rattle.std.proofs.lemmas.List.Elements.{All-push}
use Rattle.std.specs.Str.{IsUtf8}
use Rattle.redl_excerpts.specs.declared.last_word.LastWord.{LastWord}
use Rattle.redl_excerpts.proofs.DetailLaws.{words-more}
use Rattle.redl_excerpts.proofs.last_word.Says.of.Goals as goal

pub loop-entry-preserved : goal.loop-entry-preserved
loop-entry-preserved c =
    let P : LastWord → Type 0 = λ said. IsUtf8 said.reviewer in
    record {
      said = c.in_ok-push.ensures.items ∙ words-more c.loop-entry.words.items c.args.entries.now c.loop-entry.entry-index c.entry-item.result c.in_ok-said.said (omega arith) c.entry-item.is
          c.in_ok-said.ensures.value c.loop-entry.invariant.said;
      utf8 = subst (All P) (sym c.in_ok-push.ensures.items) (All-push P c.loop-entry.words.items c.in_ok-said.said c.loop-entry.invariant.utf8 c.in_ok-said.ensures.utf8);
    }
