-- The tokens of a line's object.
use Rattle.std.proofs.Common.{◌≡◌, ℕ, List, [], ◌∷◌, ◌++◌, codes, decimal}
use Rattle.json.specs.Token.{Token, begin_object, end_object, key, string, number}
use Rattle.json.specs.Print.{print}
use Rattle.serde_json.proofs.Texts.{print-outline}
use Rattle.redl_report.specs.declared.line.ReportLine.{ReportLine}
use Rattle.redl_report.specs.declared.line.Role.{Role}
use Rattle.redl_report.specs.declared.line.Role.TheVariants.{Reviewer, Author, Kind}
use Rattle.redl_report.specs.Texts.{json_line, json_object, kind_tokens, role_name}

abbrev pub line_tokens : ReportLine → List Token
line_tokens line =
    begin_object ∷ key (codes "accept") ∷ number (decimal line.accept) ∷ key (codes "disputed") ∷ number (decimal line.disputed)
    ∷ (kind_tokens line.role ++ key (codes "open") ∷ number (decimal line.undecided) ∷ key (codes "reject") ∷ number (decimal line.reject)
    ∷ key (codes "role") ∷ string (role_name line.role) ∷ key (codes "who") ∷ string line.who ∷ end_object ∷ [])

abbrev line : Role → List ℕ → ℕ → ℕ → ℕ → ℕ → ReportLine
line role who accept reject disputed undecided = record { role = role; who = who; accept = accept; reject = reject; disputed = disputed; undecided = undecided }

printed : (role : Role) (who : List ℕ) (a r d u : ℕ) → print (line_tokens (line role who a r d u)) ≡ json_line (line role who a r d u)
unfolding json_line
printed Reviewer who a r d u = print-outline (json_object (line Reviewer who a r d u))
printed Author who a r d u = print-outline (json_object (line Author who a r d u))
printed (Kind kind) who a r d u = print-outline (json_object (line (Kind kind) who a r d u))

-- printed, they are the line's object
pub line-printed : (line : ReportLine) → print (line_tokens line) ≡ json_line line
line-printed line = printed line.role line.who line.accept line.reject line.disputed line.undecided
