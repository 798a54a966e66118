-- The names of all lines are UTF-8.
use Rattle.std.proofs.Common.{◌≡◌, ℕ, Bool, true, IsTrue, List, [], ◌∷◌, All, map, length, refl}
use Rattle.std.specs.Cmp.Lexicographic.{slice_cmp}
use Rattle.std.specs.List.{AllByRecursion, flat_map, list_all}
use Rattle.std.specs.Ordering.{nat_cmp}
use Rattle.std.specs.Str.{IsUtf8}
use Rattle.std.proofs.lemmas.List.Elements.{All-append, All-filter, All-from_recursion, All-map, All-same, All-weaker, recursion_from_All}
use Rattle.std.proofs.lemmas.List.Concat.{flat_map-cons}
use Rattle.std.proofs.lemmas.Bool.{and_parts}
use Rattle.redl_index.specs.declared.revision.Revision.{Revision}
use Rattle.redl_index.specs.Revisions.{IsListable}
use Rattle.redl_journal.specs.declared.entry.Entry.{Entry}
use Rattle.redl_journal.specs.Journals.{IsAllowed}
use Rattle.redl_report.specs.declared.line.ReportLine.{ReportLine}
use Rattle.redl_kinds.specs.Kinds.{is_named}
use Rattle.redl_kinds.specs.declared.rev_kind.RevKind.{RevKind}
use Rattle.redl_kinds.specs.declared.kind_names.TheConstants.{KINDS}
use Rattle.redl_report.specs.Counts.{IsLine, counts_any}
use Rattle.redl_report.specs.Groups.{Group, group_of, grouped, names_in_order}
use Rattle.redl_report.specs.Reports.{author_line, author_lines, author_of, kind_line, kind_lines, report_lines, report_lines_by_kind, reviewer_line, reviewer_of}
use Rattle.redl_report.proofs.GroupLaws.{keys-all}

-- the names of groups
names-utf8 : {T : Type 0} (name_of : T → List ℕ) (things : List T) → All (λ thing. IsUtf8 (name_of thing)) things → AllByRecursion IsUtf8 (names_in_order (map name_of things))
names-utf8 name_of things all =
    keys-all (slice_cmp nat_cmp) IsUtf8 [] (map name_of things) tt (recursion_from_All IsUtf8 (map name_of things) (All-map IsUtf8 name_of things all))

tests-all : {A : Type 0} (p : A → Bool) (xs : List A) → list_all p xs ≡ true → AllByRecursion (λ x. IsTrue (p x)) xs
tests-all p [] all = tt
tests-all p (x ∷ xs) all = let parts = and_parts (p x) (list_all p xs) all in (parts.0, tests-all p xs parts.1)

-- lines that are named as their groups
named : {T : Type 0} (name_of : T → List ℕ) (line_of : Group T → ReportLine) → ((group : Group T) → IsUtf8 group.name → IsLine (line_of group)) → (things : List T)
    → All (λ thing. IsUtf8 (name_of thing)) things → All IsLine (map line_of (grouped name_of things))
named {T} name_of line_of are things all =
    All-from_recursion IsLine (map line_of (grouped name_of things)) (each (names_in_order (map name_of things)) (names-utf8 name_of things all))
  where
    each : (names : List (List ℕ)) → AllByRecursion IsUtf8 names → AllByRecursion IsLine (map line_of (map (group_of name_of things) names))
    each [] names_are = tt
    each (name ∷ names) names_are = (are (group_of name_of things name) names_are.0, each names names_are.1)

-- several lines for each group
all-named : {T : Type 0} (name_of : T → List ℕ) (lines_of : Group T → List ReportLine) → ((group : Group T) → IsUtf8 group.name → All IsLine (lines_of group)) → (things : List T)
    → All (λ thing. IsUtf8 (name_of thing)) things → All IsLine (flat_map lines_of (grouped name_of things))
all-named {T} name_of lines_of are things all = each (names_in_order (map name_of things)) (names-utf8 name_of things all) where
  each : (names : List (List ℕ)) → AllByRecursion IsUtf8 names → All IsLine (flat_map lines_of (map (group_of name_of things) names))
  each [] names_are = All-from_recursion IsLine [] tt
  each (name ∷ names) names_are =
      All-same IsLine _ _ (flat_map-cons lines_of (group_of name_of things name) (map (group_of name_of things) names))
      (All-append IsLine (lines_of (group_of name_of things name)) (flat_map lines_of (map (group_of name_of things) names)) (are (group_of name_of things name) names_are.0) (each names names_are.1))

-- an author's lines
author_lines-named : (book : List Entry) (own : Group Revision) → IsUtf8 own.name → All IsLine (author_lines book own)
author_lines-named book own utf8 =
    All-append IsLine (author_line book own ∷ []) (kind_lines KINDS book own) (All-from_recursion IsLine (author_line book own ∷ []) (record { who = utf8; kind = tt }, tt))
    (All-filter counts_any IsLine (map (kind_line book own) KINDS) (All-from_recursion IsLine (map (kind_line book own) KINDS) (each KINDS (tests-all is_named KINDS refl))))
  where
    each : (kinds : List RevKind) → AllByRecursion (λ kind. IsTrue (is_named kind)) kinds → AllByRecursion IsLine (map (kind_line book own) kinds)
    each [] are = tt
    each (kind ∷ kinds) are = (record { who = utf8; kind = are.0 }, each kinds are.1)

pub lines-named : (revisions : List Revision) (book : List Entry) → All IsListable revisions → All IsAllowed book → All IsLine (report_lines revisions book)
lines-named revisions book told allowed =
    All-append IsLine (map (reviewer_line (length revisions)) (grouped reviewer_of book)) (map (author_line book) (grouped author_of revisions))
    (named reviewer_of (reviewer_line (length revisions)) (λ group utf8. record { who = utf8; kind = tt }) book (All-weaker IsAllowed (λ entry. IsUtf8 entry.reviewer) (λ entry is. is.reviewer.utf8) book allowed))
    (named author_of (author_line book) (λ group utf8. record { who = utf8; kind = tt }) revisions (All-weaker IsListable (λ revision. IsUtf8 revision.author) (λ revision is. is.author) revisions told))

pub lines-named-by_kind : (revisions : List Revision) (book : List Entry) → All IsListable revisions → All IsAllowed book → All IsLine (report_lines_by_kind revisions book)
lines-named-by_kind revisions book told allowed =
    All-append IsLine (map (reviewer_line (length revisions)) (grouped reviewer_of book)) (flat_map (author_lines book) (grouped author_of revisions))
    (named reviewer_of (reviewer_line (length revisions)) (λ group utf8. record { who = utf8; kind = tt }) book (All-weaker IsAllowed (λ entry. IsUtf8 entry.reviewer) (λ entry is. is.reviewer.utf8) book allowed))
    (all-named author_of (author_lines book) (author_lines-named book) revisions (All-weaker IsListable (λ revision. IsUtf8 revision.author) (λ revision is. is.author) revisions told))
