-- The counting of a paragraph that doesn't only end a section.
use Rattle.std.proofs.Common.{◌≡◌, ◌∙◌, false, ap, sym, None, if◌then◌else◌}
use Rattle.redl_tree.specs.Model.Nodes.{Nodes}
use Rattle.redl_lists.specs.Owns.{own_of}
use Rattle.redl_lists.specs.declared.own.Own.{Own}
use Rattle.redl_lists.specs.declared.table.Tables.{Tables}
use Rattle.redl_numbering.specs.Counts.{Counts, counts_after, passed}
use Rattle.redl_numbering.specs.Nums.{counted}
use Rattle.redl_clauses.specs.Walks.{longest_chain, only_ends_section, paragraph_counted, paragraph_found}

pub counted-says : (tables : Tables) (kids : Nodes) (counts : Counts) (own : Own) → own ≡ own_of kids → only_ends_section kids ≡ false
    → counts_after tables longest_chain counts own ≡ paragraph_counted tables kids counts
counted-says tables kids counts own says not_only =
    ap (counts_after tables longest_chain counts) says
    ∙ sym (ap (λ b. if b then passed counts else counts_after tables longest_chain counts (own_of kids)) not_only)

pub found-says : (tables : Tables) (kids : Nodes) (own : Own) → own ≡ own_of kids → only_ends_section kids ≡ false
    → counted tables longest_chain own ≡ paragraph_found tables kids
found-says tables kids own says not_only =
    ap (counted tables longest_chain) says ∙ sym (ap (λ b. if b then None else counted tables longest_chain (own_of kids)) not_only)
