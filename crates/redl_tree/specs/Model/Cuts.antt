-- A start tag as it is kept: its text, and where its prefix and its name end in it.
use Rattle.std.specs.Prelude.{ℕ, ◌≡◌, ◌≤◌, ◌<◌, ◌==◌, ◌||◌, Bool, false, List, length, take, drop, slice_index, codes, if◌then◌else◌}
use Rattle.redl_tree.specs.Model.Starts.{Start, local_in}
use Rattle.redl_tree.specs.Roles.Words.{number_in}
use Rattle.redl_tree.specs.declared.tags.Tag.TheInside.{Inside}

-- the name ends in the text, and a prefix ends in the name, at a colon
pub record IsCut (text : List ℕ) (prefix name : ℕ) : Type 0 where
  pub within : name ≤ length text
  pub prefixed : 0 < prefix → prefix < name
  pub colon : 0 < prefix → slice_index text prefix ≡ 58

-- the local name by the number of its word, where the start tag has this one: two numbers are those of names that are live again
abbrev pub name_now : ℕ → List ℕ → List ℕ
name_now word own = if word == 254 then codes "t" else if word == 255 then codes "instrText" else own

abbrev pub start_of : Inside → Start
start_of tag = record {
  prefix = take tag.prefix tag.text.now;
  local = name_now tag.word (local_in tag.text.now tag.prefix tag.name);
  space = tag.space;
  tail = drop tag.name tag.text.now;
  kind = tag.kind;
  rev = tag.rev;
}

-- the number is that of a name that is live again
abbrev pub is_live : ℕ → Bool
is_live word = (word == 254) || (word == 255)

-- its text is so cut, and the number is that of the word that its local name is, but where another one is live again
pub record IsCutTag (tag : Inside) : Type 0 where
  pub cut : IsCut tag.text.now tag.prefix tag.name
  pub word : is_live tag.word ≡ false → tag.word ≡ number_in tag.space (local_in tag.text.now tag.prefix tag.name)
