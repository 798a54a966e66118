-- At the end no tables are left.
use Rattle.std.proofs.Common.{◌∙◌, ◌++◌, ap, sym, arith, append-nil, false, map, get_or, List, Bool, Vec, Global}
use Rattle.std.proofs.lemmas.List.{drop_all}
use Rattle.std.specs.List.{list_any}
use Rattle.redl_left.specs.Facts.{fact_number}
use Rattle.redl_left.specs.Named.{has_value, is_value_of}
use Rattle.redl_left.specs.declared.line.Line.{Line}
use Rattle.redl_left.proofs.NameLaws.{map_map}
use Rattle.redl_left.proofs.named.Named.of.Goals as goal

pub returns : goal.returns
returns c = λ fact value.
    let tables = c.args.tables.now in
    let among : List Line → Bool = λ lines. list_any (is_value_of value) lines in
    let lines_in : Vec Line Global → List Line = λ lines. lines.items in
    let has = map (λ values. has_value values value) c.loop-lines.all.items in
    let end = drop_all c.loop-lines.lines-index tables (omega arith) in
    let whole = sym (append-nil has) ∙ ap (λ (ts : List (Vec Line Global)). has ++ map (λ t. among (lines_in t)) ts) (sym end) ∙ c.loop-lines.invariant value in
    ap (λ (bs : List Bool). get_or bs (fact_number fact) false) (whole ∙ sym (map_map among lines_in tables))
