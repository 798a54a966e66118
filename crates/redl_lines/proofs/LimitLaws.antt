-- The digits of the limits, as the lines print them.
use Rattle.std.proofs.Common.{◌≡◌, codes, arith}
use Rattle.std.specs.Fmt.{decimal}
use Rattle.std.specs.Str.Parse.{AllDigits, digits_value}
use Rattle.std.proofs.lemmas.Fmt.{decimal-digits_value}
use Rattle.std.proofs.lemmas.Str.Parse.{IsNumeralModel, numerals_by_value, tells_digits}
use Rattle.redl_io.specs.Limits.{package_bytes, journal_bytes, depth, nodes}
use Rattle.redl_lines.specs.Lines.{sample_paragraphs}

own : IsNumeralModel (AllDigits 10) (digits_value 10)
own = numerals_by_value (AllDigits 10) tells_digits

pub package_bytes_digits : decimal package_bytes ≡ codes "134217728"
package_bytes_digits = decimal-digits_value own (codes "134217728") (omega arith, (omega arith, (omega arith, (omega arith, (omega arith, (omega arith, (omega arith, (omega arith, (omega arith, tt))))))))) (omega arith) (λ e. absurd (omega (arith, e))) (omega arith)

pub journal_bytes_digits : decimal journal_bytes ≡ codes "67108864"
journal_bytes_digits = decimal-digits_value own (codes "67108864") (omega arith, (omega arith, (omega arith, (omega arith, (omega arith, (omega arith, (omega arith, (omega arith, tt)))))))) (omega arith) (λ e. absurd (omega (arith, e))) (omega arith)

pub depth_digits : decimal depth ≡ codes "512"
depth_digits = decimal-digits_value own (codes "512") (omega arith, (omega arith, (omega arith, tt))) (omega arith) (λ e. absurd (omega (arith, e))) (omega arith)

pub nodes_digits : decimal nodes ≡ codes "2097152"
nodes_digits = decimal-digits_value own (codes "2097152") (omega arith, (omega arith, (omega arith, (omega arith, (omega arith, (omega arith, (omega arith, tt))))))) (omega arith) (λ e. absurd (omega (arith, e))) (omega arith)

pub sample_digits : decimal sample_paragraphs ≡ codes "20000"
sample_digits = decimal-digits_value own (codes "20000") (omega arith, (omega arith, (omega arith, (omega arith, (omega arith, tt))))) (omega arith) (λ e. absurd (omega (arith, e))) (omega arith)
