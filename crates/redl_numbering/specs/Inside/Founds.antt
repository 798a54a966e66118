-- What is found of a paragraph's num, as plain data.
use Rattle.redl_numbering.specs.Nums.{Counted}
use Rattle.redl_numbering.specs.declared.lists.Found.{Found}

abbrev pub found_as : Found → Counted
found_as found = record { num = found.num; list = found.list; overrides = found.used.overrides.now; levels = found.used.levels.now; level = found.level }
