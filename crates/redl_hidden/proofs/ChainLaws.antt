-- The chains of styles, found in rounds, and the first place of an id.
use Rattle.std.proofs.Common.{◌≡◌, ◌∙◌, ◌+◌, ◌<◌, ◌≤◌, ◌^◌, ℕ, zero, suc, List, ◌∷◌, drop, length, map, get_or, refl, sym, ap, Bool, true, false, Option, Some, None, option_and_then, slice_get, if◌then◌else◌, arith, subst}
use Rattle.std.specs.Option.{option_map}
use Rattle.std.specs.List.{position_from}
use Rattle.std.proofs.lemmas.List.{at_drop_more, at_drop_all}
use Rattle.std.proofs.lemmas.Option.{slice_get-map}
use Rattle.redl_reading.specs.Steps.{or_else}
use Rattle.redl_relations.proofs.Laws.{or_else-none, or_else-assoc}
use Rattle.redl_hidden.specs.Styles.{Style, base_of, chain_hides, longest_chain, nearest, nearest_by}
use Rattle.redl_hidden.specs.Inside.Chains.{doubled, first_link, first_links, joined, link_at, next_by, rounds, said_by}
use Rattle.redl_hidden.specs.declared.chain.Link.{Link}

module _ {A : Type 0} (test : A → Bool) where
  -- one more was looked at
  pub place-more : (xs : List A) (i : ℕ) (x : A) (old now : Option ℕ) → i < length xs → x ≡ get_or xs i x → now ≡ or_else old (if test x then Some i else None)
      → or_else now (position_from test (i + 1) (drop (i + 1) xs)) ≡ or_else old (position_from test i (drop i xs))
  place-more xs i x old now within is more =
      let later = position_from test (i + 1) (drop (i + 1) xs) in
      ap (λ o. or_else o later) more ∙ or_else-assoc old (if test x then Some i else None) later
      ∙ ap (or_else old) (by (test x) ∙ ap (λ y. position_from test i (y ∷ drop (i + 1) xs)) is ∙ sym (at_drop_more (position_from test i) xs i x within))
    where
      by : (b : Bool) → or_else (if b then Some i else None) (position_from test (i + 1) (drop (i + 1) xs)) ≡ (if b then Some i else position_from test (i + 1) (drop (i + 1) xs))
      by true = refl
      by false = refl

  -- all were
  pub place-all : (xs : List A) (i : ℕ) (o : Option ℕ) → length xs ≤ i → or_else o (position_from test i (drop i xs)) ≡ o
  place-all xs i o past = ap (or_else o) (at_drop_all (position_from test i) xs i past) ∙ or_else-none o

module _ (styles : List Style) where
  -- the style in a place, the place of the one that it is based on, and the place behind so many
  abbrev style_at : Option ℕ → Option Style
  style_at place = option_and_then (slice_get styles) place

  abbrev base_at : Option Style → Option ℕ
  base_at None = None
  base_at (Some style) = base_of styles style

  abbrev behind : ℕ → Option ℕ → Option ℕ
  behind zero place = place
  behind (suc n) place = behind n (base_at (style_at place))

  nearest-none : (n : ℕ) → nearest styles n None ≡ None
  nearest-none zero = refl
  nearest-none (suc n) = refl

  behind-none : (n : ℕ) → behind n None ≡ None
  behind-none zero = refl
  behind-none (suc n) = behind-none n

  nearest-step : (m n : ℕ) (found : Option Style)
      → ((place : Option ℕ) → nearest styles (m + n) place ≡ or_else (nearest styles m place) (nearest styles n (behind m place)))
      → nearest_by styles (nearest styles (m + n)) found ≡ or_else (nearest_by styles (nearest styles m) found) (nearest styles n (behind m (base_at found)))
  nearest-step m n None later = sym (ap (nearest styles n) (behind-none m) ∙ nearest-none n)
  nearest-step m n (Some style) later =
      ap (or_else style.vanish) (later (base_of styles style))
      ∙ sym (or_else-assoc style.vanish (nearest styles m (base_of styles style)) (nearest styles n (behind m (base_of styles style))))

  -- the nearest of m + n styles is that of the first m, else that of the n behind them
  nearest-more : (m n : ℕ) (place : Option ℕ) → nearest styles (m + n) place ≡ or_else (nearest styles m place) (nearest styles n (behind m place))
  nearest-more zero n place = let is : 0 + n ≡ n = omega arith in ap (λ k. nearest styles k place) is
  nearest-more (suc m) n place =
      let is : suc m + n ≡ suc (m + n) = omega arith in
      ap (λ k. nearest styles k place) is ∙ nearest-step m n (style_at place) (λ later. nearest-more m n later)

  behind-more : (m n : ℕ) (place : Option ℕ) → behind (m + n) place ≡ behind n (behind m place)
  behind-more zero n place = let is : 0 + n ≡ n = omega arith in ap (λ k. behind k place) is
  behind-more (suc m) n place =
      let is : suc m + n ≡ suc (m + n) = omega arith in
      ap (λ k. behind k place) is ∙ behind-more m n (base_at (style_at place))

  -- ---- links that look at so many styles of each chain

  record Reach (n : ℕ) (links : List Link) : Type 0 where
    said : (place : Option ℕ) → said_by (link_at links place) ≡ nearest styles n place
    next : (place : Option ℕ) → next_by (link_at links place) ≡ behind n place

  link-of : {A : Type 0} (f : A → Link) (xs : List A) (place : Option ℕ) → link_at (map f xs) place ≡ option_map f (option_and_then (slice_get xs) place)
  link-of f xs None = refl
  link-of f xs (Some i) = slice_get-map f xs i

  first-said : (found : Option Style) → said_by (option_map (first_link styles) found) ≡ nearest_by styles (nearest styles 0) found
  first-said None = refl
  first-said (Some style) = sym (or_else-none style.vanish)

  first-next : (found : Option Style) → next_by (option_map (first_link styles) found) ≡ base_at found
  first-next None = refl
  first-next (Some style) = refl

  first : Reach 1 (first_links styles)
  first = record {
    said = λ place. ap said_by (link-of (first_link styles) styles place) ∙ first-said (style_at place);
    next = λ place. ap next_by (link-of (first_link styles) styles place) ∙ first-next (style_at place);
  }

  double-said : (links : List Link) (found : Option Link) → said_by (option_map (joined links) found) ≡ or_else (said_by found) (said_by (link_at links (next_by found)))
  double-said links None = refl
  double-said links (Some link) = refl

  double-next : (links : List Link) (found : Option Link) → next_by (option_map (joined links) found) ≡ next_by (link_at links (next_by found))
  double-next links None = refl
  double-next links (Some link) = refl

  double : (n : ℕ) (links : List Link) → Reach n links → Reach (n + n) (doubled links)
  double n links r = record {
    said = λ place.
        ap said_by (link-of (joined links) links place) ∙ double-said links (link_at links place)
        ∙ ap (λ o. or_else o (said_by (link_at links (next_by (link_at links place))))) (r.said place)
        ∙ ap (or_else (nearest styles n place)) (r.said (next_by (link_at links place)) ∙ ap (nearest styles n) (r.next place))
        ∙ sym (nearest-more n n place);
    next = λ place.
        ap next_by (link-of (joined links) links place) ∙ double-next links (link_at links place)
        ∙ r.next (next_by (link_at links place)) ∙ ap (behind n) (r.next place)
        ∙ sym (behind-more n n place);
  }

  reach : (k : ℕ) → Reach (2 ^ k) (rounds k (first_links styles))
  reach zero = first
  reach (suc k) =
      let twice : 2 ^ suc k ≡ 2 ^ k + 2 ^ k = omega arith in
      subst (λ n. Reach n (doubled (rounds k (first_links styles)))) (sym twice) (double (2 ^ k) (rounds k (first_links styles)) (reach k))

  pub all_of_chain : (place : Option ℕ) → said_by (link_at (rounds 32 (first_links styles)) place) ≡ chain_hides styles place
  unfolding longest_chain
  all_of_chain place = (reach 32).said place
