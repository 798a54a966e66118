-- Names of parts (ECMA-376 Part 2, 9.1.1), and where a target leads from one (RFC 3986, 5.2). A name is a list of steps with slashes
-- between them; it begins with a slash, so its first step is empty.
use Rattle.std.specs.Prelude.{ℕ, ◌-◌, List, [], ◌∷◌, ◌++◌, ◌==◌, nat_eq, length, take, slice_get, unwrap_or, codes, bytes_eq, if◌then◌else◌}
use Rattle.std.specs.List.{slice_split, flat_map, starts_with}

abbrev pub steps_of : List ℕ → List (List ℕ)
steps_of name = slice_split (λ b. b == 47) name

abbrev pub after_slash : List ℕ → List ℕ
after_slash step = 47 ∷ step

-- steps with slashes between them
abbrev pub name_of : List (List ℕ) → List ℕ
name_of [] = []
name_of (step ∷ more) = step ++ flat_map after_slash more

-- all but the last of these
abbrev pub front_of : List (List ℕ) → List (List ℕ)
front_of steps = take (length steps - 1) steps

-- the last of these, or the empty text where there is none
abbrev pub last_of : List (List ℕ) → List ℕ
last_of steps = unwrap_or (slice_get steps (length steps - 1)) []

-- the steps to the folder of the part with this name
abbrev pub folder_of : List ℕ → List (List ℕ)
folder_of name = front_of (steps_of name)

-- the name of the part that has the relationships of the part with this name (Part 2, 9.3.3): of /FOLDER/FILE it is
-- /FOLDER/_rels/FILE.rels
abbrev pub relations_name : List ℕ → List ℕ
relations_name name = (name_of (folder_of name ++ (codes "_rels" ∷ [])) ++ after_slash (last_of (steps_of name))) ++ codes ".rels"

-- ---- targets

-- after one step: `.` stays, and `..` goes up
abbrev pub after_step : List (List ℕ) → List ℕ → List (List ℕ)
after_step at step =
    if bytes_eq step (codes ".") then at
    else if bytes_eq step (codes "..") then front_of at
    else at ++ (step ∷ [])

abbrev pub after_steps : List (List ℕ) → List (List ℕ) → List (List ℕ)
after_steps at [] = at
after_steps at (step ∷ more) = after_steps (after_step at step) more

-- where a target begins: a slash leads from the root, and all else from the folder of the source
abbrev pub start_of : List ℕ → List ℕ → List (List ℕ)
start_of source target = if starts_with nat_eq target (codes "/") then [] else folder_of source

-- the name to which a target leads from the part with the name `source`
abbrev pub target_name : List ℕ → List ℕ → List ℕ
target_name source target = name_of (after_steps (start_of source target) (steps_of target))
