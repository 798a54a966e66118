-- The list and the levels of a num, and the num and the level of a paragraph (ECMA-376 Part 1, 17.9.18, 17.9.21, 17.9.23 and 17.9.25).
use Rattle.std.specs.Prelude.{ℕ, zero, suc, Bool, false, nat_lt, List, codes, bytes_eq, find, slice_get, is_some, Option, Some, None, option_and_then, unwrap_or, if◌then◌else◌}
use Rattle.std.specs.List.{position_from}
use Rattle.std.specs.Option.{option_map}
use Rattle.redl_reading.specs.Steps.{or_else}
use Rattle.redl_numerals.specs.declared.number.Number.{Number}
use Rattle.redl_numerals.specs.declared.number.Number.TheVariants.{Plus, Minus}
use Rattle.redl_lists.specs.Tables.{is_text}
use Rattle.redl_lists.specs.declared.level.Level.{Level}
use Rattle.redl_lists.specs.declared.table.AbstractNum.{AbstractNum}
use Rattle.redl_lists.specs.declared.table.Num.{Num}
use Rattle.redl_lists.specs.declared.table.Override.{Override}
use Rattle.redl_lists.specs.declared.table.Style.{Style}
use Rattle.redl_lists.specs.declared.table.Tables.{Tables}
use Rattle.redl_lists.specs.declared.own.Own.{Own}

-- ---- by name, the first holds

-- the place of the first that has this name
abbrev pub place_of : {A : Type 0} → (A → Option (List ℕ)) → List A → List ℕ → Option ℕ
place_of name rows wanted = position_from (λ row. is_text wanted (name row)) 0 rows

-- what stands in this place, if there is anything
abbrev pub at_place : {A : Type 0} → List (Option A) → ℕ → Option A
at_place rows k = unwrap_or (slice_get rows k) None

-- ---- the list of a num

abbrev pub list_id : AbstractNum → Option (List ℕ)
list_id list = list.id

abbrev pub list_style : AbstractNum → Option (List ℕ)
list_style list = list.style

abbrev pub num_name : Num → Option (List ℕ)
num_name num = num.id

abbrev pub style_name : Style → Option (List ℕ)
style_name style = style.id

-- where a list takes another one's place by a style, the first that defines that style
abbrev pub place_past_link : List AbstractNum → ℕ → Option (List ℕ) → Option ℕ
place_past_link lists own None = Some own
place_past_link lists own (Some link) = place_of list_style lists link

abbrev pub link_of : AbstractNum → Option (List ℕ)
link_of list = list.link

abbrev pub place_at : List AbstractNum → ℕ → Option ℕ
place_at lists own = place_past_link lists own (option_and_then link_of (slice_get lists own))

-- the place of the list of a num, by which nums count together
abbrev pub list_place : Tables → Num → Option ℕ
list_place tables num = option_and_then (place_at tables.lists) (option_and_then (place_of list_id tables.lists) num.list)

-- ---- the levels of a num: what the num says itself takes the place of what its list says

abbrev pub own_level : Override → Option Level
own_level override = override.level

abbrev pub own_start : Override → Option Number
own_start override = override.start

abbrev pub level_at : List (Option Override) → List (Option Level) → ℕ → Option Level
level_at overrides levels k = or_else (option_and_then own_level (at_place overrides k)) (at_place levels k)

-- where the level begins anew under the num
abbrev pub start_override : List (Option Override) → ℕ → Option Number
start_override overrides k = option_and_then own_start (at_place overrides k)

abbrev pub start_of : Level → Option Number
start_of level = level.start

abbrev pub restart_of : Level → Option Number
restart_of level = level.restart

-- where it begins: 0, where nothing is said
abbrev pub start_at : List (Option Override) → List (Option Level) → ℕ → Number
start_at overrides levels k = unwrap_or (or_else (start_override overrides k) (option_and_then start_of (level_at overrides levels k))) (Plus 0)

abbrev pub restart_at : List (Option Override) → List (Option Level) → ℕ → Option Number
restart_at overrides levels k = option_and_then restart_of (level_at overrides levels k)

-- ---- the styles of a paragraph

abbrev pub style_at : List Style → Option (List ℕ) → Option Style
style_at styles name = option_and_then (slice_get styles) (option_and_then (place_of style_name styles) name)

abbrev pub is_default : Style → Bool
is_default style = style.is_default

-- the style that a paragraph names, or else the default one
abbrev pub first_style : List Style → Option (List ℕ) → Option Style
first_style styles None = find is_default styles
first_style styles (Some name) = style_at styles (Some name)

-- Of a style, the one that it is based on, and so on, the first that has a num. At most so many are looked at.
abbrev pub num_or : Option Style → (Style → Option (List ℕ)) → Option (List ℕ)
num_or None later = None
num_or (Some style) later = or_else style.num (later style)

abbrev pub first_num : List Style → ℕ → Option Style → Option (List ℕ)
first_num styles zero style = None
first_num styles (suc left) style = num_or style (λ s. first_num styles left (style_at styles s.based_on))

-- the level of the num that names this style, the least first
abbrev pub names_style : Option (List ℕ) → Option Level → Bool
names_style None level = false
names_style (Some id) None = false
names_style (Some id) (Some level) = is_text id level.style

abbrev pub named_from : List (Option Override) → List (Option Level) → Option (List ℕ) → ℕ → ℕ → Option ℕ
named_from overrides levels id k zero = None
named_from overrides levels id k (suc left) =
    if names_style id (level_at overrides levels k) then Some k else named_from overrides levels id (suc k) left

-- of each style in turn: the level that names it, else the one that it says
abbrev pub own_style_level : List (Option Override) → List (Option Level) → Style → Option Number
own_style_level overrides levels style = or_else (option_map Plus (named_from overrides levels style.id 0 9)) style.level

abbrev pub level_or : List (Option Override) → List (Option Level) → Option Style → (Style → Option Number) → Option Number
level_or overrides levels None later = None
level_or overrides levels (Some style) later = or_else (own_style_level overrides levels style) (later style)

abbrev pub style_level : List (Option Override) → List (Option Level) → List Style → ℕ → Option Style → Option Number
style_level overrides levels styles zero style = None
style_level overrides levels styles (suc left) style = level_or overrides levels style (λ s. style_level overrides levels styles left (style_at styles s.based_on))

-- ---- the num and the level of a paragraph

-- the place of the num with this id: 0 is none
abbrev pub num_place : Tables → List ℕ → Option ℕ
num_place tables id = if bytes_eq id (codes "0") then None else place_of num_name tables.nums id

-- a level is one of nine
abbrev pub nine : Number → Option ℕ
nine (Plus k) = if nat_lt k 9 then Some k else None
nine (Minus k) = None

-- a num and its list by their places, the levels of both, and the level of the paragraph
pub record Counted : Type 0 where
  pub num : ℕ
  pub list : ℕ
  pub overrides : List (Option Override)
  pub levels : List (Option Level)
  pub level : ℕ

abbrev pub counted_at : ℕ → ℕ → List (Option Override) → List (Option Level) → ℕ → Option Counted
counted_at place list overrides levels k =
    if is_some (level_at overrides levels k) then Some (record { num = place; list = list; overrides = overrides; levels = levels; level = k }) else None

abbrev pub level_said : List (Option Override) → List (Option Level) → List Style → ℕ → Option Style → Option Number → Number
level_said overrides levels styles longest style own = unwrap_or (or_else own (style_level overrides levels styles longest style)) (Plus 0)

abbrev pub counted_in : Tables → ℕ → Option Style → Option Number → ℕ → Num → ℕ → AbstractNum → Option Counted
counted_in tables longest style own place num at list =
    option_and_then (counted_at place at num.overrides list.levels) (nine (level_said num.overrides list.levels tables.styles longest style own))

abbrev pub counted_by : Tables → ℕ → Option Style → Option Number → ℕ → Num → Option Counted
counted_by tables longest style own place num =
    option_and_then (λ at. option_and_then (counted_in tables longest style own place num at) (slice_get tables.lists at)) (list_place tables num)

abbrev pub counted_with : Tables → ℕ → Option Style → Option Number → Option (List ℕ) → Option Counted
counted_with tables longest style own id =
    option_and_then (λ place. option_and_then (counted_by tables longest style own place) (slice_get tables.nums place)) (option_and_then (num_place tables) id)

-- of a paragraph that says this; at most so many styles of its chain are looked at
abbrev pub counted : Tables → ℕ → Own → Option Counted
counted tables longest own =
    let style = first_style tables.styles own.style in
    counted_with tables longest style own.level (or_else own.num (first_num tables.styles longest style))
