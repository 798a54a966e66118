use Rattle.std.proofs.Common.{◌∷◌, ◌-◌, All, IsUtf8, length, take, drop, sym, ap, ◌∙◌, subst, arith}
use Rattle.std.proofs.lemmas.List.Elements.{All-get_or, All-tail}
use Rattle.redl_commands_write.proofs.JoinLaws.{first_rest, joins_same, no_names}
use Rattle.redl_commands_write.proofs.join.join_files.Goals as goal

pub name_of-requires : goal.name_of-requires
name_of-requires g c = rw c.first-item.is (All-get_or IsUtf8 c.args.journals.now 0 c.first-item.result (omega arith) c.requires.utf8)

pub join_to-requires : goal.join_to-requires
join_to-requires g c =
    let journals = c.args.journals.now in
    let first = c.first-item.result in
    All-tail IsUtf8 first (take (length journals - 1) (drop 1 journals))
    (subst (All IsUtf8) (sym (first_rest journals first c.in-len1-up.len_at_least c.first-item.is)) c.requires.utf8)

pub returns : goal.returns
returns g c =
    let journals = c.args.journals.now in
    let first = c.first-item.result in
    let rest = take (length journals - 1) (drop 1 journals) in
    joins_same (c.name_of.result.now ∷ rest) journals
    (ap (λ name. name ∷ rest) c.name_of.ensures ∙ first_rest journals first c.in-len1-up.len_at_least c.first-item.is) c.join_to.ensures

pub unreachable-requires : goal.unreachable-requires
unreachable-requires g c = no_names c.args.journals.now (omega arith) c.requires.some
