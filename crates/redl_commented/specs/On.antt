-- Which comments are on a revision (our own rule): those of whose units a member of it holds one. A comment that only stands beside a
-- revision isn't on it. They come member by member, of each member those that end last first, each once, and at most 20.
use Rattle.std.specs.Prelude.{ℕ, ◌-◌, ◌==◌, ◌&&◌, nat_le, nat_lt, max, Bool, List, [], ◌∷◌, ◌++◌, filter, length, take, if◌then◌else◌}
use Rattle.std.specs.List.{list_any}
use Rattle.redl_spans.specs.declared.span.Span.{Span}
use Rattle.redl_commented.specs.Orders.{in_order}
use Rattle.redl_commented.specs.declared.range.Ranged.{Ranged}

abbrev pub begins_before : ℕ → Ranged → Bool
begins_before to ranged = nat_lt ranged.range.from to

abbrev pub ends_after : ℕ → Ranged → Bool
ends_after from ranged = nat_lt from ranged.range.to

-- a range and a span have a unit in common; both have one
abbrev pub meets : Span → Ranged → Bool
meets span ranged = begins_before span.to ranged && ends_after span.from ranged

-- ---- those that end last first, and of those that end at one place the first ones first

abbrev pub ranked_in : Ranged → List Ranged → List Ranged
ranked_in ranged [] = ranged ∷ []
ranked_in ranged (other ∷ more) = if nat_lt other.range.to ranged.range.to then ranged ∷ other ∷ more else other ∷ ranked_in ranged more

-- with these behind those
abbrev pub ranked_after : List Ranged → List Ranged → List Ranged
ranked_after ranked [] = ranked
ranked_after ranked (ranged ∷ more) = ranked_after (ranked_in ranged ranked) more

abbrev pub ranked : List Ranged → List Ranged
ranked all = ranked_after [] all

-- ---- on a member, and on a revision

abbrev pub start_of : Ranged → ℕ
start_of ranged = ranged.range.from

abbrev pub finish_of : Ranged → ℕ
finish_of ranged = ranged.range.to

abbrev pub by_start : List Ranged → List Ranged
by_start all = in_order start_of all

-- the comments on a member, of these in the order of their begin
abbrev pub on_member : List Ranged → Span → List Ranged
on_member all span = ranked (filter (meets span) all)

abbrev pub has_comment : List ℕ → ℕ → Bool
has_comment kept comment = list_any (λ other. other == comment) kept

-- comments, and then these, each once
abbrev pub joined : List ℕ → List Ranged → List ℕ
joined kept [] = kept
joined kept (ranged ∷ more) = joined (if has_comment kept ranged.comment then kept else take 20 (kept ++ ranged.comment ∷ [])) more

abbrev pub ends_by : ℕ → Ranged → Bool
ends_by from ranged = nat_le ranged.range.to from

-- how many comments are on a member: those that begin before its end, less those that end by its begin
abbrev pub number_on : List Ranged → Span → ℕ
number_on all span = length (filter (begins_before span.to) all) - length (filter (ends_by span.from) all)

-- the comments on a revision, at most 20, and how many are on that of its members on which most are
pub record Remarks : Type 0 where
  pub kept : List ℕ
  pub most : ℕ

abbrev pub no_remarks : Remarks
no_remarks = record { kept = []; most = 0 }

-- with those on one member more, and on many
abbrev pub remarked : List Ranged → Remarks → Span → Remarks
remarked all remarks span = record { kept = joined remarks.kept (take 20 (on_member all span)); most = max remarks.most (number_on all span) }

abbrev pub all_remarked : List Ranged → Remarks → List Span → Remarks
all_remarked all remarks [] = remarks
all_remarked all remarks (span ∷ more) = all_remarked all (remarked all remarks span) more

abbrev pub is_of : ℕ → Span → Bool
is_of v span = span.revision == v

abbrev pub end_of : Span → ℕ
end_of span = span.to

-- members of a revision, in the order of their ends
abbrev pub members_of : List Span → ℕ → List Span
members_of spans v = filter (is_of v) (in_order end_of spans)

-- the comments on a revision
abbrev pub remarks_on : List Span → List Ranged → ℕ → Remarks
remarks_on spans all v = all_remarked (by_start all) no_remarks (members_of spans v)

-- How many comments there are on a revision. Of one with several members and more than 20 comments it is as many as are on one member.
abbrev pub count_of : Remarks → ℕ
count_of remarks = max (length remarks.kept) remarks.most
