use Rattle.std.proofs.Common.{IsUtf8, rules}
use Rattle.std.proofs.lemmas.List.Elements.{All-push}
use Rattle.redl_words.proofs.given.add_word.Goals as goal

pub returns-clause-utf8 : goal.returns-clause-utf8
returns-clause-utf8 c =
    let utf8 : IsUtf8 c.in_ok-word.word = search rules in
    rw c.in_ok-push.ensures.items (All-push IsUtf8 c.args.words.now.items c.in_ok-word.word c.requires utf8)
