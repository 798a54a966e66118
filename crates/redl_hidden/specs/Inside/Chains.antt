-- What chains of styles say, found in rounds: each style has what the nearest of so many in its chain says, and the style behind these. Each
-- round doubles how many they are.
use Rattle.std.specs.Prelude.{ℕ, zero, suc, List, map, slice_get, Bool, Option, Some, None, option_and_then}
use Rattle.redl_reading.specs.Steps.{or_else}
use Rattle.redl_hidden.specs.Styles.{Style, base_of}
use Rattle.redl_hidden.specs.declared.chain.Link.{Link}

abbrev pub said_by : Option Link → Option Bool
said_by None = None
said_by (Some link) = link.said

abbrev pub next_by : Option Link → Option ℕ
next_by None = None
next_by (Some link) = link.next

abbrev pub link_at : List Link → Option ℕ → Option Link
link_at links place = option_and_then (slice_get links) place

abbrev pub first_link : List Style → Style → Link
first_link styles style = record { said = style.vanish; next = base_of styles style }

abbrev pub first_links : List Style → List Link
first_links styles = map (first_link styles) styles

abbrev pub joined : List Link → Link → Link
joined links link = record {
  said = or_else link.said (said_by (link_at links link.next));
  next = next_by (link_at links link.next);
}

abbrev pub doubled : List Link → List Link
doubled links = map (joined links) links

-- after so many rounds
abbrev pub rounds : ℕ → List Link → List Link
rounds zero links = links
rounds (suc n) links = doubled (rounds n links)
