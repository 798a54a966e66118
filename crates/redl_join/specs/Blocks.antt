-- Lists of entries in blocks.
use Rattle.std.specs.Prelude.{◌≡◌, ◌≤◌, ◌-◌, ℕ, suc, Bool, true, List, [], length, take, drop, slice_get, Option, Some, None}
use Rattle.std.specs.declared.cmp.Ordering.TheVariants.{Less}
use Rattle.std.specs.Global.{Vec}
use Rattle.std.specs.List.{flat_map, AllByRecursion}
use Rattle.std.specs.Ordering.{is_lt}
use Rattle.redl_journal.specs.declared.entry.Entry.{Entry}
use Rattle.redl_journal.specs.Order.{entry_order}
use Rattle.redl_join.specs.Books.{IsBook}

-- the entries of blocks, one block after another
abbrev pub entries_in_blocks : List (Vec Entry) → List Entry
entries_in_blocks blocks = flat_map (λ block. block.items) blocks

-- the block has an entry
abbrev pub IsFilled : Vec Entry → Type 0
IsFilled block = block.items ≡ [] → ⊥

-- the invariant of a list in blocks: all entries are in order, each once, and no block is empty
pub record AreBlocks (blocks : List (Vec Entry)) : Type 0 where
  pub ordered : IsBook (entries_in_blocks blocks)
  pub filled : AllByRecursion IsFilled blocks

-- the entry comes after the last one of some entries, if there is one
abbrev pub is_after : Entry → Option Entry → Bool
is_after entry None = true
is_after entry (Some last) = is_lt (entry_order last entry)

-- the last of these entries comes before the entry
abbrev pub ends_before : Entry → List Entry → Bool
ends_before entry block = is_after entry (slice_get block (length block - 1))

-- The blocks before this one hold earlier entries, and those after it later ones. The entry belongs into this block, or, if
-- there is none, to the end.
pub record IsPlace (entry : Entry) (blocks : List (Vec Entry)) (place : ℕ) : Type 0 where
  pub bound : place ≤ length blocks
  pub earlier : AllByRecursion (λ other. entry_order other entry ≡ Less) (entries_in_blocks (take place blocks))
  pub later : AllByRecursion (λ other. entry_order entry other ≡ Less) (entries_in_blocks (drop (suc place) blocks))

-- the invariant of a list of entries, with their number
pub record AreCounted (blocks : List (Vec Entry)) (count : ℕ) : Type 0 where
  pub are : AreBlocks blocks
  pub counted : count ≡ length (entries_in_blocks blocks)
