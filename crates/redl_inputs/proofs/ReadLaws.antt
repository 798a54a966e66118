-- Steps of a call, one after another.
use Rattle.std.proofs.Common.{◌≡◌, ◌++◌, ◌∷◌, ℕ, List, [], Option, None, Some, IfSome, Result, Ok, Err, Contains, inl, inr, refl, sym, ap, ◌∙◌, subst}
use Rattle.std.proofs.lemmas.List.Elements.{Contains-append_left, Contains-append_right}
use Rattle.redl_inputs.proofs.AskLaws.{asked_all, asks_before, asks_behind, asks_failed, asks_for_all, asks_for_none, asks_nothing, asks_within, names_of-append, names_within, none_more}
use Rattle.redl_inputs.proofs.FetchLaws.{front_failed}
use Rattle.redl_inputs.proofs.NameLaws.{none_before, none_behind}
use Rattle.redl_inputs.specs.Asking.{AreWithin, AsksAll, IsLast}
use Rattle.redl_inputs.specs.Readers.{Reader, IsReader}
use Rattle.redl_inputs.specs.Reading.{IsMade, IsOfNoFile, IsUnread, MayHold, UnlessUnread, ReadsFiles, Reads, ReadsText, front_of}
use Rattle.redl_inputs.specs.Steps.{◌>>=◌}
use Rattle.redl_io.specs.Faults.{Rose}
use Rattle.redl_io.specs.Shelf.{Files, names_of}
use Rattle.redl_io.specs.declared.shelf.Request.{Request}
use Rattle.redl_lines.specs.Failures.{Failure, caused, unread, no_memory}

-- ---- one step

pub made_bind : {X Y : Type 0} (x : X) (made : Result Y Failure) (due : Result X Failure) (next : X → Result Y Failure) (failed : Type 0)
    → due ≡ Ok x → IsMade made (next x) failed → IsMade made (due >>= next) failed
made_bind x made due next failed is h = subst (λ d. IsMade made (d >>= next) failed) (sym is) h

pub failed_bind : {X Y : Type 0} (failure : Failure) (due : Result X Failure) (next : X → Result Y Failure) (failed : Type 0)
    → IsMade {Y = X} (Err failure) due failed → IsMade {Y = Y} (Err failure) (due >>= next) failed
failed_bind no_memory due next failed h = tt
failed_bind (unread name) due next failed (inl h) = inl h
failed_bind (unread name) due next failed (inr h) = inr (ap (λ d. d >>= next) h)
failed_bind (caused cause) due next failed h = ap (λ d. d >>= next) h

unread_in : {Y : Type 0} (made : Result Y Failure) (names more : List (List ℕ)) (told : Option Files) (failed : Type 0)
    → ((name : List ℕ) → Contains names name → Contains more name) → IsUnread made names told failed → IsUnread made more told failed
unread_in (Ok y) names more told failed among h = tt
unread_in (Err no_memory) names more told failed among h = tt
unread_in (Err (unread name)) names more told failed among (one, cause) = (among name one, cause)
unread_in (Err (caused cause)) names more told failed among h = tt

unread_as : (X Y : Type 0) (failure : Failure) (names : List (List ℕ)) (told : Option Files) (failed : Type 0)
    → IsUnread {Y = X} (Err failure) names told failed → IsUnread {Y = Y} (Err failure) names told failed
unread_as X Y no_memory names told failed h = tt
unread_as X Y (unread name) names told failed h = h
unread_as X Y (caused cause) names told failed h = tt

stands_as : (X Y : Type 0) (failure : Failure) (Holds : Type 0)
    → UnlessUnread {Y = X} (Err failure) Holds → UnlessUnread {Y = Y} (Err failure) Holds
stands_as X Y no_memory Holds h = h
stands_as X Y (unread name) Holds h = tt
stands_as X Y (caused cause) Holds h = h

stands_of : {Y : Type 0} (made : Result Y Failure) (Holds : Type 0) → Holds → UnlessUnread made Holds
stands_of (Ok y) Holds h = h
stands_of (Err no_memory) Holds h = h
stands_of (Err (unread name)) Holds h = tt
stands_of (Err (caused cause)) Holds h = h

none_unread : {Y : Type 0} (journal : Option (List ℕ)) (made : Result Y Failure) (names : List (List ℕ)) (told : Option Files) (failed : Type 0) → IsOfNoFile journal made → IsUnread made names told failed
none_unread journal (Ok y) names told failed of = tt
none_unread journal (Err no_memory) names told failed of = tt
none_unread journal (Err (unread name)) names told failed of = absurd of
none_unread journal (Err (caused cause)) names told failed of = tt

-- a failure that is of no file is so whatever was to be made
pub of_none_as : (X Y : Type 0) (journal : Option (List ℕ)) (failure : Failure) → IsOfNoFile {Y = X} journal (Err failure) → IsOfNoFile {Y = Y} journal (Err failure)
of_none_as X Y journal no_memory h = tt
of_none_as X Y journal (unread name) h = h
of_none_as X Y journal (caused cause) h = h

-- a step that takes no file makes what is due, whatever failed
surely : {X : Type 0} (made due : Result X Failure) (failed : Type 0) → IsMade made due ⊥ → IsMade made due failed
surely (Ok x) due failed h = h
surely (Err no_memory) due failed h = tt
surely (Err (unread name)) due failed (inl h) = absurd h
surely (Err (unread name)) due failed (inr h) = inr h
surely (Err (caused cause)) due failed h = h

-- ---- steps that take no file, in a row

-- a step went well, and then the next one
pub takes_then : {X Y : Type 0} {journal : Option (List ℕ)} {x : X} {made : Result Y Failure} {due : Reader → Result X Failure} (next : X → Reader → Result Y Failure)
    → ReadsText journal (Ok x) due → ReadsText journal made (next x) → ReadsText journal made (λ reader. due reader >>= (λ y. next y reader))
takes_then {x = x} {made = made} {due = due} next first rest = record {
  as_due = λ reader is. made_bind x made (due reader) (λ y. next y reader) ⊥ (first.as_due reader is) (rest.as_due reader is);
  of_no_file = rest.of_no_file;
}

-- a step failed
pub takes_stops : {X Y : Type 0} {journal : Option (List ℕ)} {failure : Failure} {due : Reader → Result X Failure} (next : X → Reader → Result Y Failure)
    → ReadsText {Y = X} journal (Err failure) due → ReadsText {Y = Y} journal (Err failure) (λ reader. due reader >>= (λ y. next y reader))
takes_stops {X = X} {Y = Y} {journal = journal} {failure = failure} {due = due} next step = record {
  as_due = λ reader is. failed_bind failure (due reader) (λ y. next y reader) ⊥ (step.as_due reader is);
  of_no_file = of_none_as X Y journal failure step.of_no_file;
}

-- a step went well, and what is due was made of what it gave
pub takes_ok : {X Y : Type 0} {journal : Option (List ℕ)} {x : X} {y : Y} {due : Reader → Result X Failure} (next : X → Result Y Failure)
    → ReadsText journal (Ok x) due → next x ≡ Ok y → ReadsText journal (Ok y) (λ reader. due reader >>= next)
takes_ok {due = due} next first is = record {
  as_due = λ reader reads. ap (λ d. d >>= next) (first.as_due reader reads) ∙ is;
  of_no_file = tt;
}

-- ---- steps in a row

-- this holds of all files that the shelf may hold
abbrev pub Known : {T : Type 0} → Option Files → List T → (Files → Type 0) → Type 0
Known told names P = (files : Files) → MayHold told names files → P files

-- who asks for more files knows less of them
pub known_in : {T U : Type 0} {P : Files → Type 0} (told : Option Files) (names : List T) (whole : List U) → (whole ≡ [] → names ≡ []) → Known told names P → Known told whole P
known_in {P = P} told names whole none known = λ files may. by files may where
  by : (files : Files) → MayHold told whole files → P files
  by files (inl tells) = known files (inl tells)
  by files (inr nothing) = known files (inr (none nothing))

pub if_known : {T : Type 0} {P Q : Files → Type 0} (told : Option Files) (names : List T) → ((files : Files) → P files → Q files) → Known told names P → Known told names Q
if_known told names step known = λ files may. step files (known files may)

pub both : {T : Type 0} {P Q R : Files → Type 0} (told : Option Files) (names : List T) → ((files : Files) → P files → Q files → R files)
    → Known told names P → Known told names Q → Known told names R
both told names step p q = λ files may. step files (p files may) (q files may)

-- what holds of all files holds of those that a shelf may have
pub always : {T : Type 0} {P : Files → Type 0} (told : Option Files) (names : List T) → ((files : Files) → P files) → Known told names P
always told names all = λ files may. all files

-- the names of files are among those of more
named_behind : (wanted more : List Request) (name : List ℕ) → Contains (names_of more) name → Contains (names_of (wanted ++ more)) name
named_behind wanted more name among = subst (λ names. Contains names name) (sym (names_of-append wanted more)) (Contains-append_right (names_of wanted) (names_of more) name among)

named_before : (wanted more : List Request) (name : List ℕ) → Contains (names_of wanted) name → Contains (names_of (wanted ++ more)) name
named_before wanted more name among = subst (λ names. Contains names name) (sym (names_of-append wanted more)) (Contains-append_left (names_of wanted) (names_of more) name among)

-- what a step did after a shelf was asked for some files, which it gave
pub reads_behind : {S Y : Type 0} {told : S → Option Files} {faults : S → ℕ} {asked : S → Option (List Request)} {old mid new : S} {more : List Request} {made : Result Y Failure} {due : Reader → Files → Result Y Failure}
    (wanted : List Request) → told mid ≡ told old → faults mid ≡ faults old → AsksAll (asked old) (asked mid) wanted
    → ReadsFiles told faults asked mid new more made due → ReadsFiles told faults asked old new (wanted ++ more) made due
reads_behind {told = told} {faults = faults} {asked = asked} {old = old} {mid = mid} {new = new} {more = more} {made = made} {due = due} wanted same stood all step = record {
  as_due = known_in (told old) more (wanted ++ more) (none_behind wanted more)
      (subst (λ count. Known (told old) more (λ files. (reader : Reader) → IsReader reader → IsMade made (due reader files) (Rose count (faults new)))) stood
      (subst (λ shelf. Known shelf more (λ files. (reader : Reader) → IsReader reader → IsMade made (due reader files) (Rose (faults mid) (faults new)))) same step.as_due));
  unread = unread_in made (names_of more) (names_of (wanted ++ more)) (told old) (Rose (faults old) (faults new)) (named_behind wanted more)
      (subst (λ count. IsUnread made (names_of more) (told old) (Rose count (faults new))) stood
      (subst (λ shelf. IsUnread made (names_of more) shelf (Rose (faults mid) (faults new))) same step.unread));
  same_files = step.same_files ∙ same;
  stands = subst (λ count. UnlessUnread made (faults new ≡ count)) stood step.stands;
  asks = asks_behind wanted all step.asks;
}

-- a step that went well, and then the next one
pub reads_then : {S X Y : Type 0} {told : S → Option Files} {faults : S → ℕ} {asked : S → Option (List Request)} {old mid new : S} {wanted more : List Request} {x : X} {made : Result Y Failure}
    {due : Reader → Files → Result X Failure} (next : X → Reader → Files → Result Y Failure)
    → ReadsFiles told faults asked old mid wanted (Ok x) due → ReadsFiles told faults asked mid new more made (next x)
    → ReadsFiles told faults asked old new (wanted ++ more) made (λ reader files. due reader files >>= (λ y. next y reader files))
reads_then {told = told} {faults = faults} {asked = asked} {old = old} {new = new} {wanted = wanted} {more = more} {x = x} {made = made} {due = due} next first rest =
    let later : ReadsFiles told faults asked old new (wanted ++ more) made (next x) = reads_behind wanted first.same_files first.stands (asked_all first.asks) rest in
    record {
      as_due = both (told old) (wanted ++ more)
          (λ files p q reader is. made_bind x made (due reader files) (λ y. next y reader files) (Rose (faults old) (faults new)) (p reader is) (q reader is))
          (known_in (told old) wanted (wanted ++ more) (none_before wanted more) first.as_due) later.as_due;
      unread = later.unread;
      same_files = later.same_files;
      stands = later.stands;
      asks = later.asks;
    }

-- a step failed, and nothing more was done
pub reads_stops : {S X Y : Type 0} {told : S → Option Files} {faults : S → ℕ} {asked : S → Option (List Request)} {old new : S} {wanted : List Request} {failure : Failure}
    {due : Reader → Files → Result X Failure} (next : X → Reader → Files → Result Y Failure)
    → ReadsFiles {Y = X} told faults asked old new wanted (Err failure) due
    → ReadsFiles {Y = Y} told faults asked old new wanted (Err failure) (λ reader files. due reader files >>= (λ y. next y reader files))
reads_stops {X = X} {Y = Y} {told = told} {faults = faults} {old = old} {new = new} {wanted = wanted} {failure = failure} {due = due} next step = record {
  as_due = if_known (told old) wanted (λ files h reader is. failed_bind failure (due reader files) (λ y. next y reader files) (Rose (faults old) (faults new)) (h reader is)) step.as_due;
  unread = unread_as X Y failure (names_of wanted) (told old) (Rose (faults old) (faults new)) step.unread;
  same_files = step.same_files;
  stands = stands_as X Y failure (faults new ≡ faults old) step.stands;
  asks = asks_failed step.asks;
}

-- the same where more files were named
pub reads_before : {S Y : Type 0} {told : S → Option Files} {faults : S → ℕ} {asked : S → Option (List Request)} {old new : S} {wanted : List Request} {failure : Failure} {due : Reader → Files → Result Y Failure}
    (more : List Request) → ReadsFiles {Y = Y} told faults asked old new wanted (Err failure) due
    → ReadsFiles {Y = Y} told faults asked old new (wanted ++ more) (Err failure) due
reads_before {Y = Y} {told = told} {faults = faults} {old = old} {new = new} {wanted = wanted} {failure = failure} more step = record {
  as_due = known_in (told old) wanted (wanted ++ more) (none_before wanted more) step.as_due;
  unread = unread_in {Y = Y} (Err failure) (names_of wanted) (names_of (wanted ++ more)) (told old) (Rose (faults old) (faults new)) (named_before wanted more) step.unread;
  same_files = step.same_files;
  stands = step.stands;
  asks = asks_before more step.asks;
}

-- what takes no file was made
pub reads_nothing : {S Y : Type 0} {told : S → Option Files} {faults : S → ℕ} {asked : S → Option (List Request)} {made : Result Y Failure} {due : Reader → Result Y Failure} (shelf : S)
    → Reads made due → ReadsFiles told faults asked shelf shelf [] made (λ reader files. due reader)
reads_nothing {told = told} {faults = faults} {asked = asked} {made = made} {due = due} shelf step = record {
  as_due = always (told shelf) nothing (λ files reader is. surely made (due reader) (Rose (faults shelf) (faults shelf)) (step.as_due reader is));
  unread = none_unread None made [] (told shelf) (Rose (faults shelf) (faults shelf)) step.of_no_file;
  same_files = refl;
  stands = stands_of made (faults shelf ≡ faults shelf) refl;
  asks = asks_for_all None made nothing tt step.of_no_file (asks_nothing (asked shelf));
}
  where
    nothing : List Request
    nothing = []

-- a step failed that takes no file
pub fails_alone : {S Y : Type 0} {told : S → Option Files} {faults : S → ℕ} {asked : S → Option (List Request)} {failure : Failure} {due : Reader → Files → Result Y Failure} (shelf : S) (wanted : List Request)
    → IsOfNoFile {Y = Y} None (Err failure) → ((reader : Reader) (files : Files) → IsReader reader → IsMade {Y = Y} (Err failure) (due reader files) ⊥)
    → ReadsFiles {Y = Y} told faults asked shelf shelf wanted (Err failure) due
fails_alone {Y = Y} {told = told} {faults = faults} {asked = asked} {failure = failure} {due = due} shelf wanted of step = record {
  as_due = always (told shelf) wanted (λ files reader is. surely {X = Y} (Err failure) (due reader files) (Rose (faults shelf) (faults shelf)) (step reader files is));
  unread = none_unread {Y = Y} None (Err failure) (names_of wanted) (told shelf) (Rose (faults shelf) (faults shelf)) of;
  same_files = refl;
  stands = stands_of {Y = Y} (Err failure) (faults shelf ≡ faults shelf) refl;
  asks = asks_for_none (asked shelf) wanted of;
}

-- what takes no file, and refuses at most the journal that was read last, was made of what a step read
made_after : {S X Y : Type 0} {told : S → Option Files} {faults : S → ℕ} {asked : S → Option (List Request)} {old new : S} {wanted : List Request} {x : X} {due : Reader → Files → Result X Failure}
    (journal : Option (List ℕ)) (made : Result Y Failure) (later : Reader → Files → Result Y Failure)
    → ReadsFiles told faults asked old new wanted (Ok x) due → IfSome journal (IsLast (names_of wanted)) → IsOfNoFile journal made
    → ((reader : Reader) (files : Files) → IsReader reader → due reader files ≡ Ok x → IsMade made (later reader files) (Rose (faults old) (faults new)))
    → ReadsFiles told faults asked old new wanted made later
made_after {told = told} {faults = faults} {old = old} {new = new} {wanted = wanted} journal made later first last of step = record {
  as_due = if_known (told old) wanted (λ files h reader is. step reader files is (h reader is)) first.as_due;
  unread = none_unread journal made (names_of wanted) (told old) (Rose (faults old) (faults new)) of;
  same_files = first.same_files;
  stands = stands_of made (faults new ≡ faults old) first.stands;
  asks = asks_for_all journal made wanted last of (asked_all first.asks);
}

pub reads_after : {S X Y : Type 0} {told : S → Option Files} {faults : S → ℕ} {asked : S → Option (List Request)} {old new : S} {wanted : List Request} {x : X} {due : Reader → Files → Result X Failure}
    (made : Result Y Failure) (later : Reader → Files → Result Y Failure)
    → ReadsFiles told faults asked old new wanted (Ok x) due → IsOfNoFile None made
    → ((reader : Reader) (files : Files) → IsReader reader → due reader files ≡ Ok x → IsMade made (later reader files) (Rose (faults old) (faults new)))
    → ReadsFiles told faults asked old new wanted made later
reads_after made later first of step = made_after None made later first tt of step

then_taken : {S X Y : Type 0} {told : S → Option Files} {faults : S → ℕ} {asked : S → Option (List Request)} {old new : S} {wanted : List Request} {x : X} {made : Result Y Failure}
    {due : Reader → Files → Result X Failure} (journal : Option (List ℕ)) (next : X → Reader → Result Y Failure)
    → IfSome journal (IsLast (names_of wanted)) → ReadsFiles told faults asked old new wanted (Ok x) due → ReadsText journal made (next x)
    → ReadsFiles told faults asked old new wanted made (λ reader files. due reader files >>= (λ y. next y reader))
then_taken {faults = faults} {old = old} {new = new} {x = x} {made = made} {due = due} journal next last first rest =
    made_after journal made (λ reader files. due reader files >>= (λ y. next y reader)) first last rest.of_no_file
    (λ reader files is found. made_bind x made (due reader files) (λ y. next y reader) (Rose (faults old) (faults new)) found
    (surely made (next x reader) (Rose (faults old) (faults new)) (rest.as_due reader is)))

-- a step went well, and then one that takes no file
pub reads_then_takes : {S X Y : Type 0} {told : S → Option Files} {faults : S → ℕ} {asked : S → Option (List Request)} {old new : S} {wanted : List Request} {x : X} {made : Result Y Failure}
    {due : Reader → Files → Result X Failure} (next : X → Reader → Result Y Failure)
    → ReadsFiles told faults asked old new wanted (Ok x) due → Reads made (next x)
    → ReadsFiles told faults asked old new wanted made (λ reader files. due reader files >>= (λ y. next y reader))
reads_then_takes next first rest = then_taken None next tt first rest

-- a file was read, and then taken as a journal or refused
pub reads_then_journal : {S X Y : Type 0} {told : S → Option Files} {faults : S → ℕ} {asked : S → Option (List Request)} {old new : S} {request : Request} {x : X} {made : Result Y Failure}
    {due : Reader → Files → Result X Failure} (next : X → Reader → Result Y Failure)
    → ReadsFiles told faults asked old new (request ∷ []) (Ok x) due → ReadsText (Some request.name) made (next x)
    → ReadsFiles told faults asked old new (request ∷ []) made (λ reader files. due reader files >>= (λ y. next y reader))
reads_then_journal {request = request} next first rest = then_taken (Some request.name) next ([], refl) first rest

-- a step that takes no file went well, and then one that takes some
pub takes_then_reads : {S X Y : Type 0} {told : S → Option Files} {faults : S → ℕ} {asked : S → Option (List Request)} {old new : S} {wanted : List Request} {x : X} {made : Result Y Failure}
    {due : Reader → Result X Failure} (next : X → Reader → Files → Result Y Failure)
    → Reads (Ok x) due → ReadsFiles told faults asked old new wanted made (next x)
    → ReadsFiles told faults asked old new wanted made (λ reader files. due reader >>= (λ y. next y reader files))
takes_then_reads {told = told} {faults = faults} {old = old} {new = new} {wanted = wanted} {x = x} {made = made} {due = due} next first rest = record {
  as_due = if_known (told old) wanted
      (λ files h reader is. made_bind x made (due reader) (λ y. next y reader files) (Rose (faults old) (faults new)) (first.as_due reader is) (h reader is)) rest.as_due;
  unread = rest.unread;
  same_files = rest.same_files;
  stands = rest.stands;
  asks = rest.asks;
}

-- a step that takes no file failed before one that takes some
pub takes_stops_reads : {S X Y : Type 0} {told : S → Option Files} {faults : S → ℕ} {asked : S → Option (List Request)} {failure : Failure} {due : Reader → Result X Failure} (next : X → Reader → Files → Result Y Failure)
    (shelf : S) (wanted : List Request)
    → Reads {Y = X} (Err failure) due → ReadsFiles {Y = Y} told faults asked shelf shelf wanted (Err failure) (λ reader files. due reader >>= (λ y. next y reader files))
takes_stops_reads {X = X} {Y = Y} {failure = failure} {due = due} next shelf wanted step =
    fails_alone shelf wanted (of_none_as X Y None failure step.of_no_file)
    (λ reader files is. failed_bind failure (due reader) (λ y. next y reader files) ⊥ (step.as_due reader is))

-- ---- steps that were due by another name

-- a step that reads files as one definition asks does so as any other that gives the same for those files
pub reads_when : {S Y : Type 0} {told : S → Option Files} {faults : S → ℕ} {asked : S → Option (List Request)} {old new : S} {wanted : List Request} {made : Result Y Failure} {due : Reader → Files → Result Y Failure}
    (later : Reader → Files → Result Y Failure) → Known (told old) wanted (λ files. (reader : Reader) → IsReader reader → later reader files ≡ due reader files)
    → ReadsFiles told faults asked old new wanted made due → ReadsFiles told faults asked old new wanted made later
reads_when {told = told} {faults = faults} {old = old} {new = new} {wanted = wanted} {made = made} {due = due} later same step = record {
  as_due = both (told old) wanted (λ files e h reader is. subst (λ d. IsMade made d (Rose (faults old) (faults new))) (sym (e reader is)) (h reader is)) same step.as_due;
  unread = step.unread;
  same_files = step.same_files;
  stands = step.stands;
  asks = step.asks;
}

-- a fetch failed
pub fetch_stops : {S : Type 0} {told : S → Option Files} {faults : S → ℕ} {asked : S → Option (List Request)} {old new : S} {wanted : List Request} {failure : Failure} (cap : ℕ) (due : Reader → Files → Result (List ℕ) Failure)
    → ReadsFiles {Y = List ℕ} told faults asked old new wanted (Err failure) (λ reader files. front_of cap (due reader files))
    → ReadsFiles {Y = List ℕ} told faults asked old new wanted (Err failure) due
fetch_stops {told = told} {faults = faults} {old = old} {new = new} {wanted = wanted} {failure = failure} cap due step = record {
  as_due = if_known (told old) wanted (λ files h reader is. front_failed cap (due reader files) failure (Rose (faults old) (faults new)) (h reader is)) step.as_due;
  unread = step.unread;
  same_files = step.same_files;
  stands = step.stands;
  asks = step.asks;
}

-- memory ran out after a shelf was asked for some files, which it gave
pub reads_no_memory : {S Y : Type 0} {told : S → Option Files} {faults : S → ℕ} {asked : S → Option (List Request)} {old new : S} {whole : List Request} (wanted more : List Request) (due : Reader → Files → Result Y Failure)
    → whole ≡ wanted ++ more → told new ≡ told old → faults new ≡ faults old → AsksAll (asked old) (asked new) wanted
    → ReadsFiles {Y = Y} told faults asked old new whole (Err no_memory) due
reads_no_memory {new = new} wanted more due split same stood all = rw split (reads_behind wanted same stood all (fails_alone new more tt (λ reader files is. tt)))

-- a step that keeps within these caps keeps within greater ones
pub reads_within : {S Y : Type 0} {told : S → Option Files} {faults : S → ℕ} {asked : S → Option (List Request)} {old new : S} {made : Result Y Failure} {due : Reader → Files → Result Y Failure}
    (wanted most : List Request) → AreWithin wanted most
    → ReadsFiles told faults asked old new wanted made due → ReadsFiles told faults asked old new most made due
reads_within {told = told} {faults = faults} {old = old} {new = new} {made = made} wanted most within step = record {
  as_due = known_in (told old) wanted most (λ none. none_more wanted (subst (AreWithin wanted) none within)) step.as_due;
  unread = subst (λ names. IsUnread made names (told old) (Rose (faults old) (faults new))) (names_within wanted most within) step.unread;
  same_files = step.same_files;
  stands = step.stands;
  asks = asks_within wanted most within step.asks;
}
