use Rattle.std.proofs.Common.{ap, ◌∙◌, ◌==◌, ℕ, ◌&&◌, bytes_eq}
use Rattle.redl_tree.proofs.Roles.WordLaws.{told_by_number}
use Rattle.redl_tree.specs.Model.Starts.{Start, local_in}
use Rattle.redl_tree.specs.Roles.Names.{is_w}
use Rattle.redl_tree.specs.Roles.Words.{name_of}
use Rattle.redl_tree.proofs.tags.Tag.is_word.Goals as goal

pub returns : goal.returns
returns c =
    let tag = c.self.inside in
    ap (λ (n : ℕ). tag.word == n) c.number.ensures
    ∙ told_by_number c.args.word tag.space (local_in tag.text.now tag.prefix tag.name) tag.word c.self.invariant.word
    ∙ ap (λ (start : Start). is_w start.space && bytes_eq start.local (name_of c.args.word)) c.self.view_is
