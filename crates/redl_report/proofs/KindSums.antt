-- The lines of the kinds of an author's revisions count together what the author's line counts.
use Rattle.std.proofs.Common.{◌≡◌, ◌∙◌, ◌+◌, ◌&&◌, ℕ, Bool, true, false, cond, IsTrue, List, [], ◌∷◌, ◌++◌, All, map, filter, length, Less, refl, sym, ap, arith}
use Rattle.std.specs.Prelude.{◌||◌, nat_le}
use Rattle.std.specs.List.{AllByRecursion, flat_map, fold}
use Rattle.std.specs.List.Sorted.{IsStrictlySortedBy}
use Rattle.std.specs.Ordering.{is_eq}
use Rattle.std.specs.Str.{bytes_eq}
use Rattle.std.proofs.lemmas.Bool.{leb-false, or_parts}
use Rattle.std.proofs.lemmas.Cmp.{nat_list_cmp_total}
use Rattle.std.proofs.lemmas.List.{append-nil}
use Rattle.std.proofs.lemmas.List.Concat.{flat_map-cons}
use Rattle.std.proofs.lemmas.List.Elements.{All-append, All-filter, All-from_recursion, All-same, All-weaker, filter-append, recursion_from_All}
use Rattle.std.proofs.lemmas.Map.Text.{is_eq-slice_cmp}
use Rattle.redl_kinds.specs.Kinds.{is_named, is_same_kind}
use Rattle.redl_index.specs.Revisions.{IsListable}
use Rattle.redl_kinds.specs.declared.kind_names.TheConstants.{KINDS}
use Rattle.redl_kinds.specs.declared.rev_kind.RevKind.{RevKind}
use Rattle.redl_index.specs.declared.revision.Revision.{Revision}
use Rattle.redl_kinds.proofs.KindNameLaws.{listed_once}
use Rattle.redl_join.proofs.NumbersOf.{bytes_same}
use Rattle.redl_join.specs.Verdicts.{verdict_at}
use Rattle.redl_join.specs.declared.verdict.Verdict.{Verdict}
use Rattle.redl_journal.specs.declared.entry.Entry.{Entry}
use Rattle.redl_report.specs.declared.line.ReportLine.{ReportLine}
use Rattle.redl_report.specs.declared.totals.Totals.{Totals}
use Rattle.redl_report.specs.Counts.{counts_any}
use Rattle.redl_report.specs.Groups.{Group, group_of, grouped, names_in_order}
use Rattle.redl_report.specs.Reports.{author_line, author_lines, author_of, is_accept, is_disputed, is_reject, is_undecided, kind_line, kind_lines, of_kind, report_lines_by_kind, reviewer_line, reviewer_of}
use Rattle.redl_report.specs.Sums.{KindsAddUp, is_kind, kinds_of}
use Rattle.redl_report.specs.Tables.{no_revisions, with_counts}
use Rattle.redl_report.proofs.GroupLaws.{keys-sorted, none-sorted, order, other_name}

-- ---- each kind once

-- one thing more, that is counted or not
filter-more : {X : Type 0} (test : X → Bool) (x : X) (xs : List X) → length (filter test (x ∷ xs)) ≡ cond (test x) 1 0 + length (filter test xs)
filter-more test x xs = by (test x) where
  by : (b : Bool) → length (cond b (x ∷ filter test xs) (filter test xs)) ≡ cond b 1 0 + length (filter test xs)
  by true = omega arith
  by false = omega arith

-- how often a kind is among these
abbrev times : List RevKind → RevKind → ℕ
times kinds one = length (filter (is_same_kind one) kinds)

-- ---- how many revisions, kind by kind

-- one revision more, in this kind or another, that is counted or not
more : (same is : Bool) (grown n rest times before : ℕ) → grown ≡ cond same (cond is 1 0) 0 + n → rest ≡ cond is times 0 + before
    → grown + rest ≡ cond is (cond same 1 0 + times) 0 + (n + before)
more true true grown n rest times before a b = omega (arith, a, b)
more true false grown n rest times before a b = omega (arith, a, b)
more false true grown n rest times before a b = omega (arith, a, b)
more false false grown n rest times before a b = omega (arith, a, b)

joined : (is : Bool) (times counted n grown : ℕ) → times ≡ 1 → counted ≡ n → grown ≡ cond is 1 0 + n → cond is times 0 + counted ≡ grown
joined true times counted n grown a b c = omega (arith, a, b, c)
joined false times counted n grown a b c = omega (arith, a, b, c)

module _ (decide : Revision → Verdict) (p : Verdict → Bool) where
  -- how many of these revisions are decided so
  abbrev number_of : List Revision → ℕ
  number_of revisions = length (filter p (map decide revisions))

  -- the same, kind by kind
  abbrev by_kinds : List RevKind → List Revision → ℕ
  by_kinds [] revisions = 0
  by_kinds (one ∷ kinds) revisions = number_of (of_kind one revisions) + by_kinds kinds revisions

  number-more : (revision : Revision) (revisions : List Revision) → number_of (revision ∷ revisions) ≡ cond (p (decide revision)) 1 0 + number_of revisions
  number-more revision revisions = filter-more p (decide revision) (map decide revisions)

  of_kind-number : (one : RevKind) (revision : Revision) (revisions : List Revision)
      → number_of (of_kind one (revision ∷ revisions)) ≡ cond (is_same_kind revision.kind one) (cond (p (decide revision)) 1 0) 0 + number_of (of_kind one revisions)
  of_kind-number one revision revisions = by (is_same_kind revision.kind one) where
    by : (b : Bool) → number_of (cond b (revision ∷ of_kind one revisions) (of_kind one revisions)) ≡ cond b (cond (p (decide revision)) 1 0) 0 + number_of (of_kind one revisions)
    by true = number-more revision (of_kind one revisions)
    by false = omega arith

  by_kinds-more : (kinds : List RevKind) (revision : Revision) (revisions : List Revision)
      → by_kinds kinds (revision ∷ revisions) ≡ cond (p (decide revision)) (times kinds revision.kind) 0 + by_kinds kinds revisions
  by_kinds-more [] revision revisions = by (p (decide revision)) where
    by : (b : Bool) → 0 ≡ cond b 0 0 + 0
    by true = refl
    by false = refl
  by_kinds-more (one ∷ kinds) revision revisions =
      more (is_same_kind revision.kind one) (p (decide revision)) (number_of (of_kind one (revision ∷ revisions))) (number_of (of_kind one revisions)) (by_kinds kinds (revision ∷ revisions)) (times kinds revision.kind) (by_kinds kinds revisions)
      (of_kind-number one revision revisions) (by_kinds-more kinds revision revisions)
      ∙ ap (λ n. cond (p (decide revision)) n 0 + by_kinds (one ∷ kinds) revisions) (sym (filter-more (is_same_kind revision.kind) one kinds))

  none-counted : (kinds : List RevKind) → by_kinds kinds [] ≡ 0
  none-counted [] = refl
  none-counted (one ∷ kinds) = omega (arith, none-counted kinds)

  -- kind by kind they are all
  all-counted : (revisions : List Revision) → AllByRecursion (λ revision. IsTrue (is_named revision.kind)) revisions → by_kinds KINDS revisions ≡ number_of revisions
  all-counted [] named = none-counted KINDS
  all-counted (revision ∷ revisions) named =
      by_kinds-more KINDS revision revisions
      ∙ joined (p (decide revision)) (times KINDS revision.kind) (by_kinds KINDS revisions) (number_of revisions) (number_of (revision ∷ revisions))
      (listed_once revision.kind named.0) (all-counted revisions named.1) (number-more revision revisions)

-- ---- the lines of kinds, together

abbrev totals_of : ℕ → ℕ → ℕ → ℕ → Totals
totals_of accept reject disputed undecided = record { accept = accept; reject = reject; disputed = disputed; undecided = undecided }

same_totals : (a b c d e f g h : ℕ) → a ≡ e → b ≡ f → c ≡ g → d ≡ h → totals_of a b c d ≡ totals_of e f g h
same_totals a b c d e f g h p q r s = λ i. totals_of (p i) (q i) (r i) (s i)

zero-of : (n : ℕ) → nat_le 1 n ≡ false → n ≡ 0
zero-of n is = omega (arith, leb-false 1 n is)

module _ (book : List Entry) (own : Group Revision) where
  abbrev decide : Revision → Verdict
  decide revision = verdict_at book revision.number

  -- with what the kinds count
  abbrev with_kinds : Totals → List RevKind → Totals
  with_kinds totals kinds = record {
    accept = totals.accept + by_kinds decide is_accept kinds own.items;
    reject = totals.reject + by_kinds decide is_reject kinds own.items;
    disputed = totals.disputed + by_kinds decide is_disputed kinds own.items;
    undecided = totals.undecided + by_kinds decide is_undecided kinds own.items;
  }

  added : (total n rest : ℕ) → (total + n) + rest ≡ total + (n + rest)
  added total n rest = omega arith

  passed : (total n rest : ℕ) → n ≡ 0 → total + rest ≡ total + (n + rest)
  passed total n rest is = omega (arith, is)

  plus-none : (total : ℕ) → total ≡ total + 0
  plus-none total = omega arith

  lines-sum : (totals : Totals) (kinds : List RevKind) → fold with_counts totals (kind_lines kinds book own) ≡ with_kinds totals kinds
  lines-sum totals [] = same_totals _ _ _ _ _ _ _ _ (plus-none totals.accept) (plus-none totals.reject) (plus-none totals.disputed) (plus-none totals.undecided)
  lines-sum totals (one ∷ kinds) = by (counts_any (kind_line book own one)) refl (λ more. lines-sum more kinds) where
    by : (any : Bool) → counts_any (kind_line book own one) ≡ any → ((more : Totals) → fold with_counts more (kind_lines kinds book own) ≡ with_kinds more kinds)
        → fold with_counts totals (cond any (kind_line book own one ∷ kind_lines kinds book own) (kind_lines kinds book own)) ≡ with_kinds totals (one ∷ kinds)
    by true is rest =
        rest (with_counts totals (kind_line book own one))
        ∙ same_totals _ _ _ _ _ _ _ _
        (added totals.accept (number_of decide is_accept (of_kind one own.items)) (by_kinds decide is_accept kinds own.items))
        (added totals.reject (number_of decide is_reject (of_kind one own.items)) (by_kinds decide is_reject kinds own.items))
        (added totals.disputed (number_of decide is_disputed (of_kind one own.items)) (by_kinds decide is_disputed kinds own.items))
        (added totals.undecided (number_of decide is_undecided (of_kind one own.items)) (by_kinds decide is_undecided kinds own.items))
    by false is rest =
        let counts = kind_line book own one in
        let first = or_parts (nat_le 1 counts.accept) (nat_le 1 counts.reject || (nat_le 1 counts.disputed || nat_le 1 counts.undecided)) is in
        let second = or_parts (nat_le 1 counts.reject) (nat_le 1 counts.disputed || nat_le 1 counts.undecided) first.1 in
        let third = or_parts (nat_le 1 counts.disputed) (nat_le 1 counts.undecided) second.1 in
        rest totals
        ∙ same_totals _ _ _ _ _ _ _ _
        (passed totals.accept counts.accept (by_kinds decide is_accept kinds own.items) (zero-of counts.accept first.0))
        (passed totals.reject counts.reject (by_kinds decide is_reject kinds own.items) (zero-of counts.reject second.0))
        (passed totals.disputed counts.disputed (by_kinds decide is_disputed kinds own.items) (zero-of counts.disputed third.0))
        (passed totals.undecided counts.undecided (by_kinds decide is_undecided kinds own.items) (zero-of counts.undecided third.1))

  own-sum : AllByRecursion (λ revision. IsTrue (is_named revision.kind)) own.items → fold with_counts no_revisions (kind_lines KINDS book own) ≡ with_counts no_revisions (author_line book own)
  own-sum named =
      lines-sum no_revisions KINDS
      ∙ same_totals _ _ _ _ _ _ _ _ (counted is_accept) (counted is_reject) (counted is_disputed) (counted is_undecided)
    where
      counted : (p : Verdict → Bool) → 0 + by_kinds decide p KINDS own.items ≡ 0 + number_of decide p own.items
      counted p = ap (λ n. 0 + n) (all-counted decide p own.items named)

-- ---- the kinds of one author among all lines

abbrev is_kind_of : List ℕ → ReportLine → Bool
is_kind_of who line = is_kind line.role && bytes_eq line.who who

module _ (book : List Entry) (who : List ℕ) (own : Group Revision) where
  -- those of their own
  theirs : bytes_eq own.name who ≡ true → (kinds : List RevKind) → filter (is_kind_of who) (kind_lines kinds book own) ≡ kind_lines kinds book own
  theirs is [] = refl
  theirs is (one ∷ kinds) = by (counts_any (kind_line book own one)) (theirs is kinds) where
    by : (any : Bool) → filter (is_kind_of who) (kind_lines kinds book own) ≡ kind_lines kinds book own
        → filter (is_kind_of who) (cond any (kind_line book own one ∷ kind_lines kinds book own) (kind_lines kinds book own)) ≡ cond any (kind_line book own one ∷ kind_lines kinds book own) (kind_lines kinds book own)
    by true rest =
        ap (λ b. cond b (kind_line book own one ∷ filter (is_kind_of who) (kind_lines kinds book own)) (filter (is_kind_of who) (kind_lines kinds book own))) is
        ∙ ap (λ (lines : List ReportLine). kind_line book own one ∷ lines) rest
    by false rest = rest

  -- none of somebody else's
  others : bytes_eq own.name who ≡ false → (kinds : List RevKind) → filter (is_kind_of who) (kind_lines kinds book own) ≡ []
  others is [] = refl
  others is (one ∷ kinds) = by (counts_any (kind_line book own one)) (others is kinds) where
    by : (any : Bool) → filter (is_kind_of who) (kind_lines kinds book own) ≡ []
        → filter (is_kind_of who) (cond any (kind_line book own one ∷ kind_lines kinds book own) (kind_lines kinds book own)) ≡ []
    by true rest =
        ap (λ b. cond b (kind_line book own one ∷ filter (is_kind_of who) (kind_lines kinds book own)) (filter (is_kind_of who) (kind_lines kinds book own))) is
        ∙ rest
    by false rest = rest

module _ (revisions : List Revision) (book : List Entry) where
  abbrev group : List ℕ → Group Revision
  group = group_of author_of revisions

  -- the lines of all kinds of somebody's revisions, among those of these authors
  abbrev among : List ℕ → List (List ℕ) → List ReportLine
  among who names = filter (is_kind_of who) (flat_map (author_lines book) (map group names))

  among-first : (who name : List ℕ) (names : List (List ℕ)) → among who (name ∷ names) ≡ filter (is_kind_of who) (kind_lines KINDS book (group name)) ++ among who names
  among-first who name names =
      ap (filter (is_kind_of who)) (flat_map-cons (author_lines book) (group name) (map group names))
      ∙ filter-append (is_kind_of who) (author_lines book (group name)) (flat_map (author_lines book) (map group names))

  among-none : (who : List ℕ) (names : List (List ℕ)) → AllByRecursion (λ name. order who name ≡ Less) names → among who names ≡ []
  among-none who [] above = refl
  among-none who (name ∷ names) above =
      among-first who name names
      ∙ ap (λ (lines : List ReportLine). lines ++ among who names) (others book who (group name) (other_name who name (ap is_eq above.0)) KINDS)
      ∙ among-none who names above.1

  among-each : (names : List (List ℕ)) → IsStrictlySortedBy order names → AllByRecursion (λ name. among name names ≡ kind_lines KINDS book (group name)) names
  unfolding IsStrictlySortedBy
  among-each [] sorted = tt
  among-each (name ∷ names) sorted = (own, rest names sorted.0 (among-each names sorted.1)) where
    own : among name (name ∷ names) ≡ kind_lines KINDS book (group name)
    own =
        among-first name name names
        ∙ ap (λ (lines : List ReportLine). lines ++ among name names) (theirs book name (group name) (bytes_same name name refl) KINDS)
        ∙ ap (λ (lines : List ReportLine). kind_lines KINDS book (group name) ++ lines) (among-none name names sorted.0)
        ∙ append-nil (kind_lines KINDS book (group name))

    rest : (later : List (List ℕ)) → AllByRecursion (λ other. order name other ≡ Less) later → AllByRecursion (λ other. among other names ≡ kind_lines KINDS book (group other)) later
        → AllByRecursion (λ other. among other (name ∷ names) ≡ kind_lines KINDS book (group other)) later
    rest [] above are = tt
    rest (other ∷ later) above are = (
      among-first other name names
          ∙ ap (λ (lines : List ReportLine). lines ++ among other names) (others book other (group name) (sym (is_eq-slice_cmp name other) ∙ ap is_eq above.0) KINDS)
          ∙ are.0,
      rest later above.1 are.1,
    )

  abbrev whole : List ReportLine
  whole = report_lines_by_kind revisions book

  abbrev authors : List (List ℕ)
  authors = names_in_order (map author_of revisions)

  no-reviewers : (who : List ℕ) (groups : List (Group Entry)) → filter (is_kind_of who) (map (reviewer_line (length revisions)) groups) ≡ []
  no-reviewers who [] = refl
  no-reviewers who (first ∷ groups) = no-reviewers who groups

  kinds-among : (who : List ℕ) → kinds_of whole who ≡ among who authors
  kinds-among who =
      filter-append (is_kind_of who) (map (reviewer_line (length revisions)) (grouped reviewer_of book)) (flat_map (author_lines book) (grouped author_of revisions))
      ∙ ap (λ (lines : List ReportLine). lines ++ among who authors) (no-reviewers who (grouped reviewer_of book))

  -- ---- each line

  reviewers : (groups : List (Group Entry)) → AllByRecursion (KindsAddUp whole) (map (reviewer_line (length revisions)) groups)
  reviewers [] = tt
  reviewers (first ∷ groups) = (λ role. absurd cc, reviewers groups)

  kinds : (own : Group Revision) (of : List RevKind) → AllByRecursion (KindsAddUp whole) (map (kind_line book own) of)
  kinds own [] = tt
  kinds own (one ∷ of) = (λ role. absurd cc, kinds own of)

  named : All IsListable revisions → (name : List ℕ) → AllByRecursion (λ revision. IsTrue (is_named revision.kind)) (group name).items
  named told name =
      let test = λ (revision : Revision). bytes_eq revision.author name in
      recursion_from_All (λ (revision : Revision). IsTrue (is_named revision.kind)) (filter test revisions)
      (All-filter test (λ revision. IsTrue (is_named revision.kind)) revisions (All-weaker IsListable (λ revision. IsTrue (is_named revision.kind)) (λ revision is. is.named) revisions told))

  lines : All IsListable revisions → (names : List (List ℕ)) → AllByRecursion (λ name. among name authors ≡ kind_lines KINDS book (group name)) names
      → All (KindsAddUp whole) (flat_map (author_lines book) (map group names))
  lines told [] are = All-from_recursion (KindsAddUp whole) [] tt
  lines told (name ∷ names) are =
      All-same (KindsAddUp whole) _ _ (flat_map-cons (author_lines book) (group name) (map group names))
      (All-append (KindsAddUp whole) (author_lines book (group name)) (flat_map (author_lines book) (map group names))
      (All-append (KindsAddUp whole) (author_line book (group name) ∷ []) (kind_lines KINDS book (group name))
      (All-from_recursion (KindsAddUp whole) (author_line book (group name) ∷ []) (own, tt))
      (All-filter counts_any (KindsAddUp whole) (map (kind_line book (group name)) KINDS) (All-from_recursion (KindsAddUp whole) (map (kind_line book (group name)) KINDS) (kinds (group name) KINDS))))
      (lines told names are.1))
    where
      own : KindsAddUp whole (author_line book (group name))
      own = λ role. ap (fold with_counts no_revisions) (kinds-among name ∙ are.0) ∙ own-sum book (group name) (named told name)

  pub kinds-add_up : All IsListable revisions → All (KindsAddUp whole) whole
  kinds-add_up told =
      All-append (KindsAddUp whole) (map (reviewer_line (length revisions)) (grouped reviewer_of book)) (flat_map (author_lines book) (grouped author_of revisions))
      (All-from_recursion (KindsAddUp whole) (map (reviewer_line (length revisions)) (grouped reviewer_of book)) (reviewers (grouped reviewer_of book)))
      (lines told authors (among-each authors (keys-sorted order nat_list_cmp_total [] (map author_of revisions) (none-sorted order))))
