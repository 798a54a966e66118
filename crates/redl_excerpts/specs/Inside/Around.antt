-- An excerpt while members inside one of its own tell.
use Rattle.std.specs.Prelude.{◌≡◌, ◌<◌, ◌≤◌, ◌∷◌, ℕ, true, false, List, [], Option, None, Some, if◌then◌else◌}
use Rattle.std.specs.Option.{option_map}
use Rattle.redl_changed.specs.Changed.{nothing_changed}
use Rattle.redl_index.specs.declared.revision.Revision.{Revision}
use Rattle.redl_tree.specs.Model.Nodes.{Nodes, Tag}
use Rattle.redl_tree.specs.Roles.Names.{is}
use Rattle.redl_tree.specs.Roles.Places.{is_quiet}
use Rattle.redl_excerpts.specs.Excerpts.{is_moved}
use Rattle.redl_excerpts.specs.Mentions.{Mention, Where, stretch_in, told_by}
use Rattle.redl_excerpts.specs.declared.around.Away.{Away}
use Rattle.redl_said.specs.Lines.{along}
use Rattle.redl_said.specs.Said.{holds_text, start_said}
use Rattle.redl_said.specs.declared.line.LinePlace.{LinePlace}
use Rattle.redl_excerpts.specs.declared.excerpt.Excerpt.{Excerpt}
use Rattle.redl_said.specs.Phrases.{heard}

-- A member told these words. What the first member tells is put away, what comes after it is not told so far, and `begun` says whether
-- a member inside it told.
abbrev pub opened : Excerpt → List ℕ → Excerpt
opened excerpt words = record {
  words = heard excerpt.words words;
  id = None;
  before = [];
  behind = excerpt.behind;
  changed = nothing_changed;
  begun = false;
}

-- what the first member tells, where this is told: what an earlier one told stays
abbrev pub first_of : Excerpt → Mention → Away
first_of excerpt mention = record {
  id = if excerpt.begun then excerpt.id else mention.id;
  before = if excerpt.begun then excerpt.before else mention.before;
  changed = if excerpt.begun then excerpt.changed else mention.changed;
}

-- The member ended, with this behind it, and what was put away is back. A member inside it that told stands later, so what stands
-- behind that one stays.
abbrev pub closed : Excerpt → Away → List ℕ → Excerpt
closed excerpt away behind = record {
  words = excerpt.words;
  id = away.id;
  before = away.before;
  behind = if excerpt.begun then excerpt.behind else behind;
  changed = away.changed;
  begun = true;
}

-- the same of an excerpt that is made
abbrev pub opened_if : List ℕ → Option Excerpt → Option Excerpt
opened_if words excerpt = option_map (λ excerpt. opened excerpt words) excerpt

abbrev pub first_if : Mention → Option Excerpt → Option Away
first_if mention excerpt = option_map (λ excerpt. first_of excerpt mention) excerpt

abbrev pub closed_if : Option Excerpt → Option Away → List ℕ → Option Excerpt
closed_if None away behind = None
closed_if (Some excerpt) None behind = Some excerpt
closed_if (Some excerpt) (Some away) behind = Some (closed excerpt away behind)

-- An element at this place is a member of one of so many revisions that tells of what it holds, and an element of run content: no
-- paragraph, no properties and no text, and it says nothing at its start tag.
pub record IsAround (revisions : List Revision) (tag : Tag) (kids : Nodes) (place : LinePlace) (count : ℕ) : Type 0 where
  pub numbered : 0 < tag.rev
  pub within : tag.rev ≤ count
  pub tells : (here : Where) → told_by (is_moved revisions tag.rev) here tag.kind tag kids ≡ stretch_in here.whole tag here.place kids ∷ []
  pub no_paragraph : is "p" tag ≡ false
  pub no_properties : is_quiet tag ≡ false
  pub no_text : holds_text tag ≡ false
  pub says_nothing : along place (start_said tag) ≡ place
