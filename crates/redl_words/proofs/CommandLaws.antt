-- Command lines: what was read is what the words are, and what the words are is read. So a list of words has one command at most.
use Rattle.std.proofs.Common.{◌≡◌, ◌≢◌, ℕ, zero, suc, ◌<◌, ◌≤◌, get_or, lit<, Bool, true, false, cond, List, [], ◌∷◌, length, Option, Some, None, Result, Ok, Err, refl, sym, ap, subst, ◌∙◌, inl, inr, ◌⊎◌, arith, IsTrue, All, IsUtf8, IfOk, IfSome}
use Rattle.std.specs.Prelude.{◌&&◌, not, codes, decimal, option_to_list, option_map, IsErrOf}
use Rattle.std.specs.List.{flat_map, list_all, AllByRecursion}
use Rattle.std.specs.Str.{bytes_eq}
use Rattle.std.proofs.lemmas.Option.{same_Some, cond_some}
use Rattle.std.proofs.lemmas.List.Sums.{AllPass-from_list_all, list_all-from_AllPass}
use Rattle.std.proofs.lemmas.List.Elements.{recursion_from_All, All-from_recursion}
use Rattle.std.proofs.lemmas.Str.{IsUtf8-from_ascii}
use Rattle.redl_reading.proofs.Options.{map_some}
use Rattle.redl_journal.specs.declared.entry.Word.{Word}
use Rattle.redl_journal.specs.Reading.{number_in, is_reviewer}
use Rattle.redl_reading.specs.Steps.{◌>>=◌}
use Rattle.std.proofs.lemmas.Bool.{and_parts}
use Rattle.redl_journal.proofs.Parts.{number_takes, number_again, reviewer_takes, reviewer_again}
use Rattle.redl_reading.proofs.Steps.{bind_some}
use Rattle.redl_kinds.specs.Selections.{Selection}
use Rattle.redl_kinds.specs.declared.lock.Lock.{Lock}
use Rattle.redl_words.specs.declared.error.WordsError.{WordsError}
use Rattle.redl_words.specs.declared.error.WordsError.TheVariants.{Usage, NoMemory}
use Rattle.redl_words.specs.declared.options.Form.{Form}
use Rattle.redl_words.specs.declared.options.Form.TheVariants as forms
use Rattle.redl_words.specs.declared.verb.Verb.{Verb}
use Rattle.redl_words.specs.declared.verb.Verb.TheVariants as verbs
use Rattle.redl_words.specs.declared.command.Command as code
use Rattle.redl_words.specs.declared.command.View.{View}
use Rattle.redl_words.specs.declared.command.View.TheVariants.{Original, Final, Marked, Bare, Left, LeftJson}
use Rattle.redl_words.specs.Commands.{Command, settle, view_text, list, report, page, write, decide, join, check, sample, say_word, view_name, view_word, view_option, first_view, IsSettle, IsText, AsksFor, IsPage, IsWrite, IsDecide, IsJoin, IsCheck, IsSample, IsCommand, HasNoCommand, HasUtf8, LockHasUtf8, resume, IsResume}
use Rattle.redl_words.specs.Items.{Item, format, lock, journal, named_journal, choice, rank, by_kind, item_words, Admits, of_list, of_report, of_page, of_write, of_decide, Form as Kind, is_name, formats_of, locks_of, journals_of, ranks_of, bys_of, if_so, only, onlys_of, title, titles_of, no_pictures, no_pictures_of}
use Rattle.redl_words.specs.Shown.{Only}
use Rattle.redl_words.specs.Selections.{MeansLock}
use Rattle.redl_words.specs.Views.{command_of}
use Rattle.redl_words.specs.Reading.Answers.{Finds}
use Rattle.redl_words.specs.Reading.Items.{Gathered, nothing, gathered}
use Rattle.redl_words.specs.Reading.Commands.{verb_in, say_in, settle_in, view_in, text_with, text_in, form_in, left_in, format_or_text, rank_or_0, Asked, asked_of, asked_in, as_list, as_report, list_in, report_in, page_in, write_in, decide_with, decide_in, resume_in, names_in, join_in, check_in, sample_in, command_with, command_in}
use Rattle.redl_words.proofs.SelectionLaws.{bytes_same, pick}
use Rattle.redl_words.proofs.LockLaws.{lock_utf8}
use Rattle.redl_words.proofs.ItemLaws.{form_of, items_take, read_again}
use Rattle.redl_words.proofs.SittingLaws.{sittings_take, sittings_again, firsts_utf8, seconds_utf8}
use Rattle.redl_words.specs.Reading.Sittings.{Sittings, no_sittings, sittings_in}
use Rattle.redl_words.specs.Sittings.{sitting_words, sitting_name, firsts_of, seconds_of}

-- an answer that needs a test
needs : {A : Type 0} (t : Bool) (x : Option A) (y : A) → cond t x None ≡ Some y → (t ≡ true) × (x ≡ Some y)
needs true x y e = (refl, e)
needs false x y e = absurd cc

-- ---- verbs

verb_text : Verb → List ℕ
verb_text verbs.Settle = codes "settle"
verb_text verbs.Text = codes "text"
verb_text verbs.Left = codes "left"
verb_text verbs.List = codes "list"
verb_text verbs.Report = codes "report"
verb_text verbs.Page = codes "page"
verb_text verbs.Write = codes "write"
verb_text verbs.Decide = codes "decide"
verb_text verbs.Resume = codes "resume"
verb_text verbs.Join = codes "join"
verb_text verbs.Check = codes "check"
verb_text verbs.Sample = codes "sample"

verb_takes : (word : List ℕ) (v : Verb) → verb_in word ≡ Some v → word ≡ verb_text v
unfolding verb_in verb_text
verb_takes word v e =
    pick P (bytes_eq word (codes "settle")) verbs.Settle _ v e (λ hit. bytes_same word (codes "settle") hit) (λ e.
    pick P (bytes_eq word (codes "text")) verbs.Text _ v e (λ hit. bytes_same word (codes "text") hit) (λ e.
    pick P (bytes_eq word (codes "left")) verbs.Left _ v e (λ hit. bytes_same word (codes "left") hit) (λ e.
    pick P (bytes_eq word (codes "list")) verbs.List _ v e (λ hit. bytes_same word (codes "list") hit) (λ e.
    pick P (bytes_eq word (codes "report")) verbs.Report _ v e (λ hit. bytes_same word (codes "report") hit) (λ e.
    pick P (bytes_eq word (codes "page")) verbs.Page _ v e (λ hit. bytes_same word (codes "page") hit) (λ e.
    pick P (bytes_eq word (codes "write")) verbs.Write _ v e (λ hit. bytes_same word (codes "write") hit) (λ e.
    pick P (bytes_eq word (codes "decide")) verbs.Decide _ v e (λ hit. bytes_same word (codes "decide") hit) (λ e.
    pick P (bytes_eq word (codes "resume")) verbs.Resume _ v e (λ hit. bytes_same word (codes "resume") hit) (λ e.
    pick P (bytes_eq word (codes "join")) verbs.Join _ v e (λ hit. bytes_same word (codes "join") hit) (λ e.
    pick P (bytes_eq word (codes "check")) verbs.Check _ v e (λ hit. bytes_same word (codes "check") hit) (λ e.
    pick P (bytes_eq word (codes "sample")) verbs.Sample _ v e (λ hit. bytes_same word (codes "sample") hit) (λ e. absurd cc)))))))))))) where
      P : Verb → Type 0
      P v = word ≡ verb_text v

verb_again : (v : Verb) → verb_in (verb_text v) ≡ Some v
unfolding verb_in verb_text
verb_again verbs.Settle = refl
verb_again verbs.Text = refl
verb_again verbs.Left = refl
verb_again verbs.List = refl
verb_again verbs.Report = refl
verb_again verbs.Page = refl
verb_again verbs.Write = refl
verb_again verbs.Decide = refl
verb_again verbs.Resume = refl
verb_again verbs.Join = refl
verb_again verbs.Check = refl
verb_again verbs.Sample = refl

-- ---- settle

say_takes : (word : List ℕ) (accept : Bool) → say_in word ≡ Some accept → word ≡ say_word accept
unfolding say_in
say_takes word accept e =
    pick P (bytes_eq word (say_word true)) true _ accept e (λ hit. bytes_same word (say_word true) hit) (λ e.
    pick P (bytes_eq word (say_word false)) false _ accept e (λ hit. bytes_same word (say_word false) hit) (λ e. absurd cc)) where
      P : Bool → Type 0
      P accept = word ≡ say_word accept

settle_takes : (rest : List (List ℕ)) (c : Command) → settle_in rest ≡ Some c → IsCommand (codes "settle" ∷ rest) c
unfolding settle_in
settle_takes [] c e = absurd cc
settle_takes (say ∷ []) c e = absurd cc
settle_takes (say ∷ p ∷ []) c e =
    let n = needs (is_name p) (option_map (λ accept. settle accept p) (say_in say)) c e in
    let a = map_some (λ accept. settle accept p) (say_in say) c n.1 in
    let means : IsSettle (codes "settle" ∷ say ∷ p ∷ []) a.0 p = record { written = ap (λ (w : List ℕ). codes "settle" ∷ w ∷ p ∷ []) (say_takes say a.0 a.1); name = n.0 } in
    subst (IsCommand (codes "settle" ∷ say ∷ p ∷ [])) a.2 means
settle_takes (say ∷ p ∷ other ∷ more) c e = absurd cc

settle_again : (accept : Bool) (p : List ℕ) → is_name p ≡ true → settle_in (say_word accept ∷ p ∷ []) ≡ Some (settle accept p)
unfolding settle_in say_in
settle_again true p h = rw h refl
settle_again false p h = rw h refl

-- ---- text

-- a view that `text` or `left` writes, by its name
abbrev OfWord : List ℕ → List ℕ → List ℕ → View → Type 0
OfWord word option name view = (name ≡ view_name view) × (view_word view ≡ word) × (view_option view ≡ option)

view_takes : (name : List ℕ) (view : View) → view_in name ≡ Some view → OfWord (codes "text") (codes "--view") name view
unfolding view_in
view_takes name view e =
    pick P (bytes_eq name (view_name Original)) Original _ view e (λ hit. (bytes_same name (view_name Original) hit, refl, refl)) (λ e.
    pick P (bytes_eq name (view_name Final)) Final _ view e (λ hit. (bytes_same name (view_name Final) hit, refl, refl)) (λ e.
    pick P (bytes_eq name (view_name Marked)) Marked _ view e (λ hit. (bytes_same name (view_name Marked) hit, refl, refl)) (λ e.
    pick P (bytes_eq name (view_name Bare)) Bare _ view e (λ hit. (bytes_same name (view_name Bare) hit, refl, refl)) (λ e. absurd cc)))) where
      P : View → Type 0
      P view = OfWord (codes "text") (codes "--view") name view

form_takes : (name : List ℕ) (view : View) → form_in name ≡ Some view → OfWord (codes "left") (codes "--format") name view
unfolding form_in
form_takes name view e =
    pick P (bytes_eq name (view_name Left)) Left _ view e (λ hit. (bytes_same name (view_name Left) hit, refl, refl)) (λ e.
    pick P (bytes_eq name (view_name LeftJson)) LeftJson _ view e (λ hit. (bytes_same name (view_name LeftJson) hit, refl, refl)) (λ e. absurd cc)) where
      P : View → Type 0
      P view = OfWord (codes "left") (codes "--format") name view

-- the text of a package in a view that is there
with_view : (p : List ℕ) (view : Option View) (c : Command) → text_with p view ≡ Some c → (found : View) × (view ≡ Some found) × (is_name p ≡ true) × (view_text p found ≡ c)
with_view p None c e = absurd cc
with_view p (Some found) c e = let n = cond_some (is_name p) (view_text p found) c e in (found, refl, n.0, n.1)

-- these words are those of a view
named_words : (word option p name : List ℕ) (view : View) → OfWord word option name view → word ∷ p ∷ option ∷ name ∷ [] ≡ view_word view ∷ p ∷ view_option view ∷ view_name view ∷ []
named_words word option p name view o =
    ap (λ (w : List ℕ). w ∷ p ∷ option ∷ name ∷ []) (sym o.1) ∙ ap (λ (w : List ℕ). view_word view ∷ p ∷ w ∷ name ∷ []) (sym o.2)
    ∙ ap (λ (w : List ℕ). view_word view ∷ p ∷ view_option view ∷ w ∷ []) o.0

text_takes : (rest : List (List ℕ)) (c : Command) → text_in rest ≡ Some c → IsCommand (codes "text" ∷ rest) c
unfolding text_in
text_takes [] c e = absurd cc
text_takes (p ∷ []) c e =
    let n = cond_some (is_name p) (view_text p Final) c e in
    let means : IsText (codes "text" ∷ p ∷ []) p Final = record { written = inl (refl, refl); name = n.0 } in
    subst (IsCommand (codes "text" ∷ p ∷ [])) n.1 means
text_takes (p ∷ option ∷ []) c e = absurd cc
text_takes (p ∷ option ∷ name ∷ []) c e =
    let n = needs (bytes_eq option (codes "--view")) (text_with p (view_in name)) c e in
    let v = with_view p (view_in name) c n.1 in
    let same : option ≡ codes "--view" = bytes_same option (codes "--view") n.0 in
    let means : IsText (codes "text" ∷ p ∷ option ∷ name ∷ []) p v.0 = record {
      written = inr (ap (λ (w : List ℕ). codes "text" ∷ p ∷ w ∷ name ∷ []) same ∙ named_words (codes "text") (codes "--view") p name v.0 (view_takes name v.0 v.1));
      name = v.2;
    } in
    subst (IsCommand (codes "text" ∷ p ∷ option ∷ name ∷ [])) v.3 means
text_takes (p ∷ option ∷ name ∷ other ∷ more) c e = absurd cc

left_takes : (rest : List (List ℕ)) (c : Command) → left_in rest ≡ Some c → IsCommand (codes "left" ∷ rest) c
unfolding left_in
left_takes [] c e = absurd cc
left_takes (p ∷ []) c e =
    let n = cond_some (is_name p) (view_text p Left) c e in
    let means : IsText (codes "left" ∷ p ∷ []) p Left = record { written = inl (refl, refl); name = n.0 } in
    subst (IsCommand (codes "left" ∷ p ∷ [])) n.1 means
left_takes (p ∷ option ∷ []) c e = absurd cc
left_takes (p ∷ option ∷ name ∷ []) c e =
    let n = needs (bytes_eq option (codes "--format")) (text_with p (form_in name)) c e in
    let v = with_view p (form_in name) c n.1 in
    let same : option ≡ codes "--format" = bytes_same option (codes "--format") n.0 in
    let means : IsText (codes "left" ∷ p ∷ option ∷ name ∷ []) p v.0 = record {
      written = inr (ap (λ (w : List ℕ). codes "left" ∷ p ∷ w ∷ name ∷ []) same ∙ named_words (codes "left") (codes "--format") p name v.0 (form_takes name v.0 v.1));
      name = v.2;
    } in
    subst (IsCommand (codes "left" ∷ p ∷ option ∷ name ∷ [])) v.3 means
left_takes (p ∷ option ∷ name ∷ other ∷ more) c e = absurd cc

-- a view by its name, and by no name
text_named : (p : List ℕ) (view : View) → view_in (view_name view) ≡ Some view → is_name p ≡ true → text_in (p ∷ codes "--view" ∷ view_name view ∷ []) ≡ Some (view_text p view)
unfolding text_in
text_named p view known h = rw (known, h) refl

text_alone : (p : List ℕ) → is_name p ≡ true → text_in (p ∷ []) ≡ Some (view_text p Final)
unfolding text_in
text_alone p h = rw h refl

left_named : (p : List ℕ) (view : View) → form_in (view_name view) ≡ Some view → is_name p ≡ true → left_in (p ∷ codes "--format" ∷ view_name view ∷ []) ≡ Some (view_text p view)
unfolding left_in
left_named p view known h = rw (known, h) refl

left_alone : (p : List ℕ) → is_name p ≡ true → left_in (p ∷ []) ≡ Some (view_text p Left)
unfolding left_in
left_alone p h = rw h refl

view_again_original : view_in (view_name Original) ≡ Some Original
unfolding view_in
view_again_original = refl

view_again_final : view_in (view_name Final) ≡ Some Final
unfolding view_in
view_again_final = refl

view_again_marked : view_in (view_name Marked) ≡ Some Marked
unfolding view_in
view_again_marked = refl

view_again_bare : view_in (view_name Bare) ≡ Some Bare
unfolding view_in
view_again_bare = refl

form_again_left : form_in (view_name Left) ≡ Some Left
unfolding form_in
form_again_left = refl

form_again_leftjson : form_in (view_name LeftJson) ≡ Some LeftJson
unfolding form_in
form_again_leftjson = refl

-- ---- list

format_takes : (f : Option (List ℕ)) (formats : List (List ℕ)) → option_to_list f ≡ formats → ((formats ≡ []) × (format_or_text f ≡ codes "text")) ⊎ (formats ≡ format_or_text f ∷ [])
format_takes None formats e = inl (sym e, refl)
format_takes (Some name) formats e = inr (sym e)

format_again : (f : Option (List ℕ)) (formats : List (List ℕ)) (name : List ℕ) → option_to_list f ≡ formats → ((formats ≡ []) × (name ≡ codes "text")) ⊎ (formats ≡ name ∷ []) → format_or_text f ≡ name
format_again None formats name e (inl h) = sym h.1
format_again None formats name e (inr h) = absurd (let wrong = e ∙ h in cc)
format_again (Some other) formats name e (inl h) = absurd (let wrong = e ∙ h.0 in cc)
format_again (Some other) formats name e (inr h) = let same = e ∙ h in cc

asked_takes : (form : Form) (word : List ℕ) (rest : List (List ℕ)) (asked : Asked) → asked_in form rest ≡ Some asked
    → AsksFor (form_of form) word (word ∷ rest) asked.package_name asked.format asked.by_kind asked.locks asked.journals asked.onlys
unfolding asked_in
asked_takes form word [] asked e = absurd cc
asked_takes form word (p ∷ rest) asked e =
    let n = needs (is_name p) (option_map (asked_of p) (gathered form nothing rest)) asked e in
    let g = map_some (asked_of p) (gathered form nothing rest) asked n.1 in
    let r = items_take form rest nothing g.0 g.1 in
    let means : AsksFor (form_of form) word (word ∷ p ∷ rest) p (format_or_text g.0.format) g.0.by_kind g.0.locks g.0.journals g.0.onlys = record {
      items = r.items;
      rest = rest;
      written = refl;
      package_name = n.0;
      are_items = record { written = r.written; admitted = All-from_recursion (Admits (form_of form)) r.items r.admitted };
      format = format_takes g.0.format (formats_of r.items) r.says.format;
      kinds = r.says.by_kind;
      locks_are = r.says.locks;
      journals_are = r.says.journals;
      onlys_are = r.says.onlys;
    } in
    subst (λ (asked : Asked). AsksFor (form_of form) word (word ∷ p ∷ rest) asked.package_name asked.format asked.by_kind asked.locks asked.journals asked.onlys) g.2 means

-- a command that admits no `--by kind` has none
unsplit : (k : Kind) → (Admits k by_kind → ⊥) → (items : List Item) → AllByRecursion (Admits k) items → bys_of items ≡ []
unsplit k none [] h = refl
unsplit k none (format name ∷ items) h = unsplit k none items h.1
unsplit k none (lock text of_lock ∷ items) h = unsplit k none items h.1
unsplit k none (journal name ∷ items) h = unsplit k none items h.1
unsplit k none (named_journal name ∷ items) h = unsplit k none items h.1
unsplit k none (choice word text selection ∷ items) h = unsplit k none items h.1
unsplit k none (rank number ∷ items) h = unsplit k none items h.1
unsplit k none (by_kind ∷ items) h = absurd (none h.0)
unsplit k none (only text wanted ∷ items) h = unsplit k none items h.1
unsplit k none (title text ∷ items) h = unsplit k none items h.1
unsplit k none (no_pictures ∷ items) h = unsplit k none items h.1

-- so it is said at most once
one_split : (b : Bool) (bys : List Bool) → if_so b ≡ bys → length bys ≤ 1
one_split true bys is = let long : length bys ≡ 1 = ap length (sym is) in omega arith
one_split false bys is = let long : length bys ≡ 0 = ap length (sym is) in omega arith

not_split : (k : Kind) → (Admits k by_kind → ⊥) → (items : List Item) → AllByRecursion (Admits k) items → length (bys_of items) ≤ 1
not_split k none items h = one_split false (bys_of items) (sym (unsplit k none items h))

no_split : (b : Bool) → if_so b ≡ [] → b ≡ false
no_split true is = absurd cc
no_split false is = refl

-- what says it is so
same_split : (a b : Bool) → if_so a ≡ if_so b → a ≡ b
same_split true true is = refl
same_split true false is = absurd cc
same_split false true is = absurd cc
same_split false false is = refl

-- a command that admits no `--only` has none
unshown : (k : Kind) → ((text : List ℕ) (wanted : Only) → Admits k (only text wanted) → ⊥) → (items : List Item) → AllByRecursion (Admits k) items → onlys_of items ≡ []
unshown k none [] h = refl
unshown k none (format name ∷ items) h = unshown k none items h.1
unshown k none (lock text of_lock ∷ items) h = unshown k none items h.1
unshown k none (journal name ∷ items) h = unshown k none items h.1
unshown k none (named_journal name ∷ items) h = unshown k none items h.1
unshown k none (choice word text selection ∷ items) h = unshown k none items h.1
unshown k none (rank number ∷ items) h = unshown k none items h.1
unshown k none (by_kind ∷ items) h = unshown k none items h.1
unshown k none (only text wanted ∷ items) h = absurd (none text wanted h.0)
unshown k none (title text ∷ items) h = unshown k none items h.1
unshown k none (no_pictures ∷ items) h = unshown k none items h.1

list_takes : (rest : List (List ℕ)) (c : Command) → list_in rest ≡ Some c → IsCommand (codes "list" ∷ rest) c
list_takes rest c e =
    let a = map_some as_list (asked_in forms.List rest) c e in
    let h = asked_takes forms.List (codes "list") rest a.0 a.1 in
    let none : a.0.by_kind ≡ false = no_split a.0.by_kind (h.kinds ∙ unsplit of_list (λ h. h) h.items (recursion_from_All (Admits of_list) h.items h.are_items.admitted)) in
    subst (IsCommand (codes "list" ∷ rest)) a.2 (subst (λ (b : Bool). AsksFor of_list (codes "list") (codes "list" ∷ rest) a.0.package_name a.0.format b a.0.locks a.0.journals a.0.onlys) none h)

report_takes : (rest : List (List ℕ)) (c : Command) → report_in rest ≡ Some c → IsCommand (codes "report" ∷ rest) c
report_takes rest c e =
    let a = map_some as_report (asked_in forms.Report rest) c e in
    let h = asked_takes forms.Report (codes "report") rest a.0 a.1 in
    let none : a.0.onlys ≡ [] = h.onlys_are ∙ unshown of_report (λ text wanted h. h) h.items (recursion_from_All (Admits of_report) h.items h.are_items.admitted) in
    subst (IsCommand (codes "report" ∷ rest)) a.2 (subst (AsksFor of_report (codes "report") (codes "report" ∷ rest) a.0.package_name a.0.format a.0.by_kind a.0.locks a.0.journals) none h)

-- what comes at most once, and else has a default
once : {A : Type 0} (xs : List A) (x default : A) → ((xs ≡ []) × (x ≡ default)) ⊎ (xs ≡ x ∷ []) → length xs ≤ 1
once xs x default (inl h) = let short : length xs ≡ 0 = ap length h.0 in omega arith
once xs x default (inr h) = let short : length xs ≡ 1 = ap length h in omega arith

-- a command that admits no rank has none
unranked : (k : Kind) → ((number : ℕ) → Admits k (rank number) → ⊥) → (items : List Item) → AllByRecursion (Admits k) items → length (ranks_of items) ≤ 1
unranked k none [] h = omega arith
unranked k none (format name ∷ items) h = unranked k none items h.1
unranked k none (lock text of_lock ∷ items) h = unranked k none items h.1
unranked k none (journal name ∷ items) h = unranked k none items h.1
unranked k none (named_journal name ∷ items) h = unranked k none items h.1
unranked k none (choice word text selection ∷ items) h = unranked k none items h.1
unranked k none (by_kind ∷ items) h = unranked k none items h.1
unranked k none (rank number ∷ items) h = absurd (none number h.0)
unranked k none (only text wanted ∷ items) h = unranked k none items h.1
unranked k none (title text ∷ items) h = unranked k none items h.1
unranked k none (no_pictures ∷ items) h = unranked k none items h.1

-- a command that admits no title has none
untitled : (k : Kind) → ((text : List ℕ) → Admits k (title text) → ⊥) → (items : List Item) → AllByRecursion (Admits k) items → length (titles_of items) ≤ 1
untitled k none [] h = omega arith
untitled k none (format name ∷ items) h = untitled k none items h.1
untitled k none (lock text of_lock ∷ items) h = untitled k none items h.1
untitled k none (journal name ∷ items) h = untitled k none items h.1
untitled k none (named_journal name ∷ items) h = untitled k none items h.1
untitled k none (choice word text selection ∷ items) h = untitled k none items h.1
untitled k none (rank number ∷ items) h = untitled k none items h.1
untitled k none (by_kind ∷ items) h = untitled k none items h.1
untitled k none (only text wanted ∷ items) h = untitled k none items h.1
untitled k none (title text ∷ items) h = absurd (none text h.0)
untitled k none (no_pictures ∷ items) h = untitled k none items h.1

-- a command that can't leave pictures out never does
pictured : (k : Kind) → (Admits k no_pictures → ⊥) → (items : List Item) → AllByRecursion (Admits k) items → length (no_pictures_of items) ≤ 1
pictured k none [] h = omega arith
pictured k none (format name ∷ items) h = pictured k none items h.1
pictured k none (lock text of_lock ∷ items) h = pictured k none items h.1
pictured k none (journal name ∷ items) h = pictured k none items h.1
pictured k none (named_journal name ∷ items) h = pictured k none items h.1
pictured k none (choice word text selection ∷ items) h = pictured k none items h.1
pictured k none (rank number ∷ items) h = pictured k none items h.1
pictured k none (by_kind ∷ items) h = pictured k none items h.1
pictured k none (only text wanted ∷ items) h = pictured k none items h.1
pictured k none (title text ∷ items) h = pictured k none items h.1
pictured k none (no_pictures ∷ items) h = absurd (none h.0)

asked_again : (form : Form) → ((number : ℕ) → Admits (form_of form) (rank number) → ⊥) → ((text : List ℕ) → Admits (form_of form) (title text) → ⊥) → (Admits (form_of form) no_pictures → ⊥) → (word p name : List ℕ) (by : Bool) (locks : List Lock) (journals : List (List ℕ)) (onlys : List Only) (words : List (List ℕ))
    (h : AsksFor (form_of form) word words p name by locks journals onlys)
    → asked_in form (p ∷ h.rest) ≡ Some (record { package_name = p; format = name; by_kind = by; locks = locks; journals = journals; onlys = onlys })
unfolding asked_in
asked_again form none plain whole word p name by locks journals onlys words h =
    let items = h.items in
    let each = recursion_from_All (Admits (form_of form)) items h.are_items.admitted in
    let r = read_again form items h.rest h.are_items.written each (once (formats_of items) name (codes "text") h.format) (unranked (form_of form) none items each) (one_split by (bys_of items) h.kinds) (untitled (form_of form) plain items each) (pictured (form_of form) whole items each) in
    let f : format_or_text r.after.format ≡ name = format_again r.after.format (formats_of items) name r.format h.format in
    let b : r.after.by_kind ≡ by = same_split r.after.by_kind by (r.by_kind ∙ sym h.kinds) in
    let ls : r.after.locks ≡ locks = r.locks ∙ sym h.locks_are in
    let js : r.after.journals ≡ journals = r.journals ∙ sym h.journals_are in
    let os : r.after.onlys ≡ onlys = r.onlys ∙ sym h.onlys_are in
    let named : is_name p ≡ true = h.package_name in
    rw (named, r.reads) (same (format_or_text r.after.format) name r.after.by_kind by r.after.locks locks r.after.journals journals r.after.onlys onlys f b ls js os) where
      asked : List ℕ → Bool → List Lock → List (List ℕ) → List Only → Asked
      asked f b ls js os = record { package_name = p; format = f; by_kind = b; locks = ls; journals = js; onlys = os }

      same : (f name : List ℕ) (b by : Bool) (ls locks : List Lock) (js journals : List (List ℕ)) (os onlys : List Only) → f ≡ name → b ≡ by → ls ≡ locks → js ≡ journals → os ≡ onlys
          → Some (asked f b ls js os) ≡ Some (asked name by locks journals onlys)
      same f name b by ls locks js journals os onlys one two three four five = λ i. Some (asked (one i) (two i) (three i) (four i) (five i))

-- ---- write

write_takes : (rest : List (List ℕ)) (c : Command) → write_in rest ≡ Some c → IsCommand (codes "write" ∷ rest) c
unfolding write_in
write_takes [] c e = absurd cc
write_takes (p ∷ rest) c e =
    let n = needs (is_name p) (option_map (λ items. write p items.locks items.journals) (gathered forms.Write nothing rest)) c e in
    let g = map_some (λ (items : Gathered). write p items.locks items.journals) (gathered forms.Write nothing rest) c n.1 in
    let r = items_take forms.Write rest nothing g.0 g.1 in
    let means : IsWrite (codes "write" ∷ p ∷ rest) p g.0.locks g.0.journals = record {
      items = r.items;
      rest = rest;
      written = refl;
      package_name = n.0;
      are_items = record { written = r.written; admitted = All-from_recursion (Admits of_write) r.items r.admitted };
      locks_are = r.says.locks;
      journals_are = r.says.journals;
    } in
    subst (IsCommand (codes "write" ∷ p ∷ rest)) g.2 means

-- a command that admits no format has none
unformatted : (k : Kind) → ((name : List ℕ) → Admits k (format name) → ⊥) → (items : List Item) → AllByRecursion (Admits k) items → length (formats_of items) ≤ 1
unformatted k none [] h = omega arith
unformatted k none (format name ∷ items) h = absurd (none name h.0)
unformatted k none (lock text of_lock ∷ items) h = unformatted k none items h.1
unformatted k none (journal name ∷ items) h = unformatted k none items h.1
unformatted k none (named_journal name ∷ items) h = unformatted k none items h.1
unformatted k none (choice word text selection ∷ items) h = unformatted k none items h.1
unformatted k none (rank number ∷ items) h = unformatted k none items h.1
unformatted k none (by_kind ∷ items) h = unformatted k none items h.1
unformatted k none (only text wanted ∷ items) h = unformatted k none items h.1
unformatted k none (title text ∷ items) h = unformatted k none items h.1
unformatted k none (no_pictures ∷ items) h = unformatted k none items h.1

write_again : (p : List ℕ) (locks : List Lock) (journals rest : List (List ℕ)) (items : List Item) → is_name p ≡ true → rest ≡ flat_map item_words items → All (Admits of_write) items
    → locks ≡ locks_of items → journals ≡ journals_of items → write_in (p ∷ rest) ≡ Some (write p locks journals)
unfolding write_in
write_again p locks journals rest items h written admitted l j =
    let each = recursion_from_All (Admits of_write) items admitted in
    let r = read_again forms.Write items rest written each (unformatted of_write (λ name h. h) items each) (unranked of_write (λ number h. h) items each) (not_split of_write (λ h. h) items each) (untitled of_write (λ text h. h) items each) (pictured of_write (λ h. h) items each) in
    let ls : r.after.locks ≡ locks = r.locks ∙ sym l in
    let js : r.after.journals ≡ journals = r.journals ∙ sym j in
    rw (h, r.reads) (same_write r.after.locks locks r.after.journals journals ls js) where
      same_write : (ls locks : List Lock) (js journals : List (List ℕ)) → ls ≡ locks → js ≡ journals → Some (write p ls js) ≡ Some (write p locks journals)
      same_write ls locks js journals a b = cc

-- ---- page

-- what an option holds, as a list, is at most one
at_most_given : {A : Type 0} (given : Option A) (xs : List A) → option_to_list given ≡ xs → length xs ≤ 1
at_most_given None xs e = let none : length xs ≡ 0 = ap length (sym e) in omega arith
at_most_given (Some x) xs e = let one : length xs ≡ 1 = ap length (sym e) in omega arith

-- and the list says which
same_given : {A : Type 0} (one other : Option A) → option_to_list one ≡ option_to_list other → one ≡ other
same_given None None e = refl
same_given None (Some other) e = absurd cc
same_given (Some one) None e = absurd cc
same_given (Some one) (Some other) e = cc

not_not : (b : Bool) → not (not b) ≡ b
not_not true = refl
not_not false = refl

page_takes : (rest : List (List ℕ)) (c : Command) → page_in rest ≡ Some c → IsCommand (codes "page" ∷ rest) c
unfolding page_in
page_takes [] c e = absurd cc
page_takes (p ∷ rest) c e =
    let n = needs (is_name p) (option_map (λ items. page p items.title items.rank (not items.no_pictures) items.locks items.journals) (gathered forms.Page nothing rest)) c e in
    let g = map_some (λ (items : Gathered). page p items.title items.rank (not items.no_pictures) items.locks items.journals) (gathered forms.Page nothing rest) c n.1 in
    let r = items_take forms.Page rest nothing g.0 g.1 in
    let means : IsPage (codes "page" ∷ p ∷ rest) p g.0.title g.0.rank (not g.0.no_pictures) g.0.locks g.0.journals = record {
      items = r.items;
      rest = rest;
      written = refl;
      package_name = n.0;
      are_items = record { written = r.written; admitted = All-from_recursion (Admits of_page) r.items r.admitted };
      title_is = r.says.title;
      rank_is = r.says.rank;
      pictures_are = ap if_so (not_not g.0.no_pictures) ∙ r.says.no_pictures;
      locks_are = r.says.locks;
      journals_are = r.says.journals;
    } in
    subst (IsCommand (codes "page" ∷ p ∷ rest)) g.2 means

page_again : (words : List (List ℕ)) (p : List ℕ) (name : Option (List ℕ)) (number : Option ℕ) (pictures : Bool) (locks : List Lock) (journals : List (List ℕ)) (h : IsPage words p name number pictures locks journals)
    → page_in (p ∷ h.rest) ≡ Some (page p name number pictures locks journals)
unfolding page_in
page_again words p name number pictures locks journals h =
    let items = h.items in
    let each = recursion_from_All (Admits of_page) items h.are_items.admitted in
    let r = read_again forms.Page items h.rest h.are_items.written each (unformatted of_page (λ name h. h) items each) (at_most_given number (ranks_of items) h.rank_is) (not_split of_page (λ h. h) items each)
    (at_most_given name (titles_of items) h.title_is) (one_split (not pictures) (no_pictures_of items) h.pictures_are) in
    let ts : r.after.title ≡ name = same_given r.after.title name (r.title ∙ sym h.title_is) in
    let ns : r.after.rank ≡ number = same_given r.after.rank number (r.rank ∙ sym h.rank_is) in
    let ps : not r.after.no_pictures ≡ pictures = ap not (same_split r.after.no_pictures (not pictures) (r.no_pictures ∙ sym h.pictures_are)) ∙ not_not pictures in
    let ls : r.after.locks ≡ locks = r.locks ∙ sym h.locks_are in
    let js : r.after.journals ≡ journals = r.journals ∙ sym h.journals_are in
    rw (h.package_name, r.reads) (same_page r.after.title name r.after.rank number (not r.after.no_pictures) pictures r.after.locks locks r.after.journals journals ts ns ps ls js) where
      same_page : (ts name : Option (List ℕ)) (ns number : Option ℕ) (ps pictures : Bool) (ls locks : List Lock) (js journals : List (List ℕ)) → ts ≡ name → ns ≡ number → ps ≡ pictures → ls ≡ locks → js ≡ journals
          → Some (page p ts ns ps ls js) ≡ Some (page p name number pictures locks journals)
      same_page ts name ns number ps pictures ls locks js journals a b c d e = cc

-- ---- decide

rank_takes : (r : Option ℕ) (ranks : List ℕ) → option_to_list r ≡ ranks → ((ranks ≡ []) × (rank_or_0 r ≡ 0)) ⊎ (ranks ≡ rank_or_0 r ∷ [])
rank_takes None ranks e = inl (sym e, refl)
rank_takes (Some number) ranks e = inr (sym e)

rank_again : (r : Option ℕ) (ranks : List ℕ) (number : ℕ) → option_to_list r ≡ ranks → ((ranks ≡ []) × (number ≡ 0)) ⊎ (ranks ≡ number ∷ []) → rank_or_0 r ≡ number
rank_again None ranks number e (inl h) = sym h.1
rank_again None ranks number e (inr h) = absurd (let wrong = e ∙ h in cc)
rank_again (Some other) ranks number e (inl h) = absurd (let wrong = e ∙ h.0 in cc)
rank_again (Some other) ranks number e (inr h) = let same = e ∙ h in cc

decide_with_takes : (p reviewer : List ℕ) (journals : List (List ℕ)) (locks : List Lock) (choices : List (Word × Selection)) (number : ℕ) (c : Command) → decide_with p reviewer journals locks choices number ≡ Some c
    → (choices ≢ []) × (decide p reviewer journals locks choices number ≡ c)
decide_with_takes p reviewer journals locks [] number c e = absurd cc
decide_with_takes p reviewer journals locks (first ∷ more) number c e = (λ empty. cc, same_Some (decide p reviewer journals locks (first ∷ more) number) c e)

decide_with_again : (p reviewer : List ℕ) (journals : List (List ℕ)) (locks : List Lock) (choices : List (Word × Selection)) (number : ℕ) → choices ≢ []
    → decide_with p reviewer journals locks choices number ≡ Some (decide p reviewer journals locks choices number)
decide_with_again p reviewer journals locks [] number h = absurd (h refl)
decide_with_again p reviewer journals locks (first ∷ more) number h = refl

decide_takes : (rest : List (List ℕ)) (c : Command) → decide_in rest ≡ Some c → IsCommand (codes "decide" ∷ rest) c
unfolding decide_in
decide_takes [] c e = absurd cc
decide_takes (p ∷ []) c e = absurd cc
decide_takes (p ∷ reviewer ∷ rest) c e =
    let n = needs (is_name p && is_reviewer reviewer) (gathered forms.Decide nothing rest >>= λ items. decide_with p reviewer items.journals items.locks items.choices (rank_or_0 items.rank)) c e in
    let both = and_parts (is_name p) (is_reviewer reviewer) n.0 in
    let g = bind_some (gathered forms.Decide nothing rest) (λ (items : Gathered). decide_with p reviewer items.journals items.locks items.choices (rank_or_0 items.rank)) c n.1 in
    let d = decide_with_takes p reviewer g.0.journals g.0.locks g.0.choices (rank_or_0 g.0.rank) c g.2 in
    let r = items_take forms.Decide rest nothing g.0 g.1 in
    let means : IsDecide (codes "decide" ∷ p ∷ reviewer ∷ rest) p reviewer g.0.journals g.0.locks g.0.choices (rank_or_0 g.0.rank) = record {
      items = r.items;
      rest = rest;
      written = refl;
      package_name = both.0;
      reviewer_name = reviewer_takes reviewer both.1;
      are_items = record { written = r.written; admitted = All-from_recursion (Admits of_decide) r.items r.admitted };
      journals_are = r.says.journals;
      locks_are = r.says.locks;
      choices_are = r.says.choices;
      rank = rank_takes g.0.rank (ranks_of r.items) r.says.rank;
      some = d.0;
    } in
    subst (IsCommand (codes "decide" ∷ p ∷ reviewer ∷ rest)) d.1 means

decide_again : (words : List (List ℕ)) (p reviewer : List ℕ) (journals : List (List ℕ)) (locks : List Lock) (choices : List (Word × Selection)) (number : ℕ) (h : IsDecide words p reviewer journals locks choices number)
    → decide_in (p ∷ reviewer ∷ h.rest) ≡ Some (decide p reviewer journals locks choices number)
unfolding decide_in
decide_again words p reviewer journals locks choices number h =
    let each = recursion_from_All (Admits of_decide) h.items h.are_items.admitted in
    let r = read_again forms.Decide h.items h.rest h.are_items.written each (unformatted of_decide (λ name h. h) h.items each) (once (ranks_of h.items) number 0 h.rank) (not_split of_decide (λ h. h) h.items each) (untitled of_decide (λ text h. h) h.items each) (pictured of_decide (λ h. h) h.items each) in
    let js : r.after.journals ≡ journals = r.journals ∙ sym h.journals_are in
    let ls : r.after.locks ≡ locks = r.locks ∙ sym h.locks_are in
    let cs : r.after.choices ≡ choices = r.choices ∙ sym h.choices_are in
    let n : rank_or_0 r.after.rank ≡ number = rank_again r.after.rank (ranks_of h.items) number r.rank h.rank in
    rw (h.package_name, reviewer_again reviewer h.reviewer_name, r.reads) (made r.after.journals r.after.locks r.after.choices (rank_or_0 r.after.rank) js ls cs n) where
      made : (js : List (List ℕ)) (ls : List Lock) (cs : List (Word × Selection)) (n : ℕ) → js ≡ journals → ls ≡ locks → cs ≡ choices → n ≡ number
          → decide_with p reviewer js ls cs n ≡ Some (decide p reviewer journals locks choices number)
      made js ls cs n a b d e = rw (a, b, d, e) (decide_with_again p reviewer journals locks choices number h.some)

-- ---- resume

resume_takes : (rest : List (List ℕ)) (c : Command) → resume_in rest ≡ Some c → IsCommand (codes "resume" ∷ rest) c
unfolding resume_in
resume_takes [] c e = absurd cc
resume_takes (p ∷ []) c e = absurd cc
resume_takes (p ∷ q ∷ rest) c e =
    let n = needs (is_name p && is_name q) (option_map (λ sittings. resume p q sittings.firsts sittings.seconds) (sittings_in no_sittings rest)) c e in
    let both = and_parts (is_name p) (is_name q) n.0 in
    let s = map_some (λ (sittings : Sittings). resume p q sittings.firsts sittings.seconds) (sittings_in no_sittings rest) c n.1 in
    let r = sittings_take no_sittings s.0 rest s.1 in
    let means : IsResume (codes "resume" ∷ p ∷ q ∷ rest) p q s.0.firsts s.0.seconds = record {
      named = r.journals;
      rest = rest;
      written = refl;
      first_name = both.0;
      second_name = both.1;
      journals_written = r.written;
      names = All-from_recursion (λ journal. IsTrue (is_name (sitting_name journal))) r.journals r.names;
      firsts_are = r.firsts;
      journals_are = r.seconds;
    } in
    subst (IsCommand (codes "resume" ∷ p ∷ q ∷ rest)) s.2 means

resume_again : (words : List (List ℕ)) (p q : List ℕ) (firsts journals : List (List ℕ)) (h : IsResume words p q firsts journals) → resume_in (p ∷ q ∷ h.rest) ≡ Some (resume p q firsts journals)
unfolding resume_in
resume_again words p q firsts journals h =
    let each = recursion_from_All (λ journal. IsTrue (is_name (sitting_name journal))) h.named h.names in
    let reads = ap (sittings_in no_sittings) h.journals_written ∙ sittings_again no_sittings h.named each in
    rw (h.first_name, h.second_name, reads, h.firsts_are, h.journals_are) refl

-- ---- join, check, sample

join_takes : (rest : List (List ℕ)) (c : Command) → join_in rest ≡ Some c → IsCommand (codes "join" ∷ rest) c
unfolding join_in
join_takes [] c e = absurd cc
join_takes (name ∷ names) c e =
    let j = map_some join (names_in (name ∷ names)) c e in
    let n = cond_some (list_all is_name (name ∷ names)) (name ∷ names) j.0 j.1 in
    let means : IsJoin (codes "join" ∷ name ∷ names) (name ∷ names) = record {
      written = refl;
      names = AllPass-from_list_all is_name (name ∷ names) n.0;
      some = λ empty. cc;
    } in
    subst (IsCommand (codes "join" ∷ name ∷ names)) (ap join n.1 ∙ j.2) means

join_again : (journals : List (List ℕ)) → journals ≢ [] → All (λ name. IsTrue (is_name name)) journals → join_in journals ≡ Some (join journals)
unfolding join_in
join_again [] some h = absurd (some refl)
join_again (name ∷ names) some h =
    let all : list_all is_name (name ∷ names) ≡ true = list_all-from_AllPass is_name (name ∷ names) h in
    let read : names_in (name ∷ names) ≡ Some (name ∷ names) = rw all refl in
    ap (option_map join) read

check_takes : (rest : List (List ℕ)) (c : Command) → check_in rest ≡ Some c → IsCommand (codes "check" ∷ rest) c
unfolding check_in
check_takes [] c e = absurd cc
check_takes (p ∷ []) c e =
    let n = cond_some (is_name p) (check p) c e in
    let means : IsCheck (codes "check" ∷ p ∷ []) p = record { written = refl; name = n.0 } in
    subst (IsCommand (codes "check" ∷ p ∷ [])) n.1 means
check_takes (p ∷ other ∷ more) c e = absurd cc

check_again : (p : List ℕ) → is_name p ≡ true → check_in (p ∷ []) ≡ Some (check p)
unfolding check_in
check_again p h = rw h refl

sample_takes : (rest : List (List ℕ)) (c : Command) → sample_in rest ≡ Some c → IsCommand (codes "sample" ∷ rest) c
unfolding sample_in
sample_takes [] c e = absurd cc
sample_takes (digits ∷ []) c e =
    let n = map_some sample (number_in digits) c e in
    let t = number_takes digits n.0 n.1 in
    let means : IsSample (codes "sample" ∷ digits ∷ []) n.0 = record { written = ap (λ (w : List ℕ). codes "sample" ∷ w ∷ []) (sym t.0); small = t.1 } in
    subst (IsCommand (codes "sample" ∷ digits ∷ [])) n.2 means
sample_takes (digits ∷ other ∷ more) c e = absurd cc

sample_again : (number : ℕ) → number_in (decimal number) ≡ Some number → sample_in (decimal number ∷ []) ≡ Some (sample number)
unfolding sample_in
sample_again number h = ap (option_map sample) h

-- ---- all

with_takes : (v : Verb) (rest : List (List ℕ)) (c : Command) → command_with v rest ≡ Some c → IsCommand (verb_text v ∷ rest) c
unfolding verb_text
with_takes verbs.Settle rest c e = settle_takes rest c e
with_takes verbs.Text rest c e = text_takes rest c e
with_takes verbs.Left rest c e = left_takes rest c e
with_takes verbs.List rest c e = list_takes rest c e
with_takes verbs.Report rest c e = report_takes rest c e
with_takes verbs.Page rest c e = page_takes rest c e
with_takes verbs.Write rest c e = write_takes rest c e
with_takes verbs.Decide rest c e = decide_takes rest c e
with_takes verbs.Resume rest c e = resume_takes rest c e
with_takes verbs.Join rest c e = join_takes rest c e
with_takes verbs.Check rest c e = check_takes rest c e
with_takes verbs.Sample rest c e = sample_takes rest c e

-- words that are read as a command are a command by the forms
pub command_takes : (words : List (List ℕ)) (c : Command) → command_in words ≡ Some c → IsCommand words c
unfolding command_in
command_takes [] c e = absurd cc
command_takes (word ∷ rest) c e =
    let v = bind_some (verb_in word) (λ verb. command_with verb rest) c e in
    subst (λ (w : List ℕ). IsCommand (w ∷ rest) c) (sym (verb_takes word v.0 v.1)) (with_takes v.0 rest c v.2)

command_of_verb : (v : Verb) (rest : List (List ℕ)) → command_in (verb_text v ∷ rest) ≡ command_with v rest
unfolding command_in
command_of_verb v rest = rw (verb_again v) refl

settle_line : (rest : List (List ℕ)) → command_in (codes "settle" ∷ rest) ≡ settle_in rest
unfolding verb_text
settle_line rest = command_of_verb verbs.Settle rest

text_line : (rest : List (List ℕ)) → command_in (codes "text" ∷ rest) ≡ text_in rest
unfolding verb_text
text_line rest = command_of_verb verbs.Text rest

left_line : (rest : List (List ℕ)) → command_in (codes "left" ∷ rest) ≡ left_in rest
unfolding verb_text
left_line rest = command_of_verb verbs.Left rest

list_line : (rest : List (List ℕ)) → command_in (codes "list" ∷ rest) ≡ list_in rest
unfolding verb_text
list_line rest = command_of_verb verbs.List rest

report_line : (rest : List (List ℕ)) → command_in (codes "report" ∷ rest) ≡ report_in rest
unfolding verb_text
report_line rest = command_of_verb verbs.Report rest

page_line : (rest : List (List ℕ)) → command_in (codes "page" ∷ rest) ≡ page_in rest
unfolding verb_text
page_line rest = command_of_verb verbs.Page rest

write_line : (rest : List (List ℕ)) → command_in (codes "write" ∷ rest) ≡ write_in rest
unfolding verb_text
write_line rest = command_of_verb verbs.Write rest

decide_line : (rest : List (List ℕ)) → command_in (codes "decide" ∷ rest) ≡ decide_in rest
unfolding verb_text
decide_line rest = command_of_verb verbs.Decide rest

resume_line : (rest : List (List ℕ)) → command_in (codes "resume" ∷ rest) ≡ resume_in rest
unfolding verb_text
resume_line rest = command_of_verb verbs.Resume rest

join_line : (rest : List (List ℕ)) → command_in (codes "join" ∷ rest) ≡ join_in rest
unfolding verb_text
join_line rest = command_of_verb verbs.Join rest

check_line : (rest : List (List ℕ)) → command_in (codes "check" ∷ rest) ≡ check_in rest
unfolding verb_text
check_line rest = command_of_verb verbs.Check rest

sample_line : (rest : List (List ℕ)) → command_in (codes "sample" ∷ rest) ≡ sample_in rest
unfolding verb_text
sample_line rest = command_of_verb verbs.Sample rest

-- a command that is written in words is read again
pub command_again : (words : List (List ℕ)) (c : Command) → IsCommand words c → command_in words ≡ Some c
command_again words (settle accept p) h = ap command_in h.written ∙ settle_line (say_word accept ∷ p ∷ []) ∙ settle_again accept p h.name
command_again words (view_text p Original) h = by h.written where
  by : ((words ≡ codes "text" ∷ p ∷ []) × (Original ≡ Final)) ⊎ (words ≡ codes "text" ∷ p ∷ codes "--view" ∷ view_name Original ∷ []) → command_in words ≡ Some (view_text p Original)
  by (inl w) = absurd (let same = w.1 in cc)
  by (inr w) = ap command_in w ∙ text_line (p ∷ codes "--view" ∷ view_name Original ∷ []) ∙ text_named p Original view_again_original h.name
command_again words (view_text p Final) h = by h.written where
  by : ((words ≡ codes "text" ∷ p ∷ []) × (Final ≡ Final)) ⊎ (words ≡ codes "text" ∷ p ∷ codes "--view" ∷ view_name Final ∷ []) → command_in words ≡ Some (view_text p Final)
  by (inl w) = ap command_in w.0 ∙ text_line (p ∷ []) ∙ text_alone p h.name
  by (inr w) = ap command_in w ∙ text_line (p ∷ codes "--view" ∷ view_name Final ∷ []) ∙ text_named p Final view_again_final h.name
command_again words (view_text p Marked) h = by h.written where
  by : ((words ≡ codes "text" ∷ p ∷ []) × (Marked ≡ Final)) ⊎ (words ≡ codes "text" ∷ p ∷ codes "--view" ∷ view_name Marked ∷ []) → command_in words ≡ Some (view_text p Marked)
  by (inl w) = absurd (let same = w.1 in cc)
  by (inr w) = ap command_in w ∙ text_line (p ∷ codes "--view" ∷ view_name Marked ∷ []) ∙ text_named p Marked view_again_marked h.name
command_again words (view_text p Bare) h = by h.written where
  by : ((words ≡ codes "text" ∷ p ∷ []) × (Bare ≡ Final)) ⊎ (words ≡ codes "text" ∷ p ∷ codes "--view" ∷ view_name Bare ∷ []) → command_in words ≡ Some (view_text p Bare)
  by (inl w) = absurd (let same = w.1 in cc)
  by (inr w) = ap command_in w ∙ text_line (p ∷ codes "--view" ∷ view_name Bare ∷ []) ∙ text_named p Bare view_again_bare h.name
command_again words (view_text p Left) h = by h.written where
  by : ((words ≡ codes "left" ∷ p ∷ []) × (Left ≡ Left)) ⊎ (words ≡ codes "left" ∷ p ∷ codes "--format" ∷ view_name Left ∷ []) → command_in words ≡ Some (view_text p Left)
  by (inl w) = ap command_in w.0 ∙ left_line (p ∷ []) ∙ left_alone p h.name
  by (inr w) = ap command_in w ∙ left_line (p ∷ codes "--format" ∷ view_name Left ∷ []) ∙ left_named p Left form_again_left h.name
command_again words (view_text p LeftJson) h = by h.written where
  by : ((words ≡ codes "left" ∷ p ∷ []) × (LeftJson ≡ Left)) ⊎ (words ≡ codes "left" ∷ p ∷ codes "--format" ∷ view_name LeftJson ∷ []) → command_in words ≡ Some (view_text p LeftJson)
  by (inl w) = absurd (let same = w.1 in cc)
  by (inr w) = ap command_in w ∙ left_line (p ∷ codes "--format" ∷ view_name LeftJson ∷ []) ∙ left_named p LeftJson form_again_leftjson h.name
command_again words (list p name locks journals onlys) h =
    ap command_in h.written ∙ list_line (p ∷ h.rest) ∙ ap (option_map as_list) (asked_again forms.List (λ number h. h) (λ text h. h) (λ h. h) (codes "list") p name false locks journals onlys words h)
command_again words (report p name by locks journals) h =
    ap command_in h.written ∙ report_line (p ∷ h.rest) ∙ ap (option_map as_report) (asked_again forms.Report (λ number h. h) (λ text h. h) (λ h. h) (codes "report") p name by locks journals [] words h)
command_again words (page p name number pictures locks journals) h =
    ap command_in h.written ∙ page_line (p ∷ h.rest) ∙ page_again words p name number pictures locks journals h
command_again words (write p locks journals) h =
    ap command_in h.written ∙ write_line (p ∷ h.rest) ∙ write_again p locks journals h.rest h.items h.package_name h.are_items.written h.are_items.admitted h.locks_are h.journals_are
command_again words (decide p reviewer journals locks choices number) h =
    ap command_in h.written ∙ decide_line (p ∷ reviewer ∷ h.rest) ∙ decide_again words p reviewer journals locks choices number h
command_again words (resume p q firsts journals) h =
    ap command_in h.written ∙ resume_line (p ∷ q ∷ h.rest) ∙ resume_again words p q firsts journals h
command_again words (join journals) h = ap command_in h.written ∙ join_line journals ∙ join_again journals h.some h.names
command_again words (check p) h = ap command_in h.written ∙ check_line (p ∷ []) ∙ check_again p h.name
command_again words (sample number) h = ap command_in h.written ∙ sample_line (decimal number ∷ []) ∙ sample_again number (number_again number h.small)

-- words are at most one command
pub at_most_one : (words : List (List ℕ)) (one other : Command) → IsCommand words one → IsCommand words other → one ≡ other
at_most_one words one other h g = same_Some one other (sym (command_again words one h) ∙ command_again words other g)

no_command : (words : List (List ℕ)) → command_in words ≡ None → HasNoCommand words
no_command words none c h = let e = command_again words c h in cc

-- ---- texts

-- the texts of items are words
pub record AreUtf8 (items : List Item) : Type 0 where
  pub formats : AllByRecursion IsUtf8 (formats_of items)
  pub locks : AllByRecursion LockHasUtf8 (locks_of items)
  pub journals : AllByRecursion IsUtf8 (journals_of items)
  pub titles : AllByRecursion IsUtf8 (titles_of items)

-- a lock that some command admits is well formed
lock_means : (k : Kind) (text : List ℕ) (of_lock : Lock) → Admits k (lock text of_lock) → MeansLock text of_lock
lock_means of_list text of_lock h = h
lock_means of_report text of_lock h = h
lock_means of_page text of_lock h = h
lock_means of_write text of_lock h = h
lock_means of_decide text of_lock h = h

items_utf8 : (k : Kind) (items : List Item) → AllByRecursion (Admits k) items → AllByRecursion IsUtf8 (flat_map item_words items) → AreUtf8 items
items_utf8 k [] a h = record { formats = tt; locks = tt; journals = tt; titles = tt }
items_utf8 k (format name ∷ items) a h = let r = items_utf8 k items a.1 h.1.1 in record { formats = (h.1.0, r.formats); locks = r.locks; journals = r.journals; titles = r.titles }
items_utf8 k (lock text of_lock ∷ items) a h =
    let r = items_utf8 k items a.1 h.1.1 in
    record { formats = r.formats; locks = (lock_utf8 text of_lock (lock_means k text of_lock a.0) h.1.0, r.locks); journals = r.journals; titles = r.titles }
items_utf8 k (journal name ∷ items) a h = let r = items_utf8 k items a.1 h.1 in record { formats = r.formats; locks = r.locks; journals = (h.0, r.journals); titles = r.titles }
items_utf8 k (named_journal name ∷ items) a h = let r = items_utf8 k items a.1 h.1.1 in record { formats = r.formats; locks = r.locks; journals = (h.1.0, r.journals); titles = r.titles }
items_utf8 k (choice word text selection ∷ items) a h = let r = items_utf8 k items a.1 h.1.1 in record { formats = r.formats; locks = r.locks; journals = r.journals; titles = r.titles }
items_utf8 k (rank number ∷ items) a h = let r = items_utf8 k items a.1 h.1.1 in record { formats = r.formats; locks = r.locks; journals = r.journals; titles = r.titles }
items_utf8 k (by_kind ∷ items) a h = let r = items_utf8 k items a.1 h.1.1 in record { formats = r.formats; locks = r.locks; journals = r.journals; titles = r.titles }
items_utf8 k (only text wanted ∷ items) a h = let r = items_utf8 k items a.1 h.1.1 in record { formats = r.formats; locks = r.locks; journals = r.journals; titles = r.titles }
items_utf8 k (title text ∷ items) a h = let r = items_utf8 k items a.1 h.1.1 in record { formats = r.formats; locks = r.locks; journals = r.journals; titles = (h.1.0, r.titles) }
items_utf8 k (no_pictures ∷ items) a h = let r = items_utf8 k items a.1 h.1 in record { formats = r.formats; locks = r.locks; journals = r.journals; titles = r.titles }

-- ranks are at most 9
low_ranks : (k : Kind) → ((number : ℕ) → Admits k (rank number) → number ≤ 9) → (items : List Item) → AllByRecursion (Admits k) items → AllByRecursion (λ number. number ≤ 9) (ranks_of items)
low_ranks k low [] a = tt
low_ranks k low (format name ∷ items) a = low_ranks k low items a.1
low_ranks k low (lock text of_lock ∷ items) a = low_ranks k low items a.1
low_ranks k low (journal name ∷ items) a = low_ranks k low items a.1
low_ranks k low (named_journal name ∷ items) a = low_ranks k low items a.1
low_ranks k low (choice word text selection ∷ items) a = low_ranks k low items a.1
low_ranks k low (rank number ∷ items) a = (low number a.0, low_ranks k low items a.1)
low_ranks k low (by_kind ∷ items) a = low_ranks k low items a.1
low_ranks k low (only text wanted ∷ items) a = low_ranks k low items a.1
low_ranks k low (title text ∷ items) a = low_ranks k low items a.1
low_ranks k low (no_pictures ∷ items) a = low_ranks k low items a.1

low_rank : (ranks : List ℕ) (number : ℕ) → AllByRecursion (λ n. n ≤ 9) ranks → ((ranks ≡ []) × (number ≡ 0)) ⊎ (ranks ≡ number ∷ []) → number ≤ 9
low_rank ranks number h (inl e) = let none = e.1 in omega arith
low_rank ranks number h (inr e) = let all : AllByRecursion (λ n. n ≤ 9) (number ∷ []) = subst (AllByRecursion (λ n. n ≤ 9)) e h in all.0

text_utf8 : IsUtf8 (codes "text")
text_utf8 = IsUtf8-from_ascii (codes "text") low where
  low : (i : ℕ) → get_or (codes "text") i 0 < 128
  low zero = lit< tt
  low (suc zero) = lit< tt
  low (suc (suc zero)) = lit< tt
  low (suc (suc (suc zero))) = lit< tt
  low (suc (suc (suc (suc i)))) = lit< tt

format_utf8 : (formats : List (List ℕ)) (name : List ℕ) → AllByRecursion IsUtf8 formats → ((formats ≡ []) × (name ≡ codes "text")) ⊎ (formats ≡ name ∷ []) → IsUtf8 name
format_utf8 formats name h (inl e) = subst IsUtf8 (sym e.1) text_utf8
format_utf8 formats name h (inr e) = let all : AllByRecursion IsUtf8 (name ∷ []) = subst (AllByRecursion IsUtf8) e h in all.0

-- what an option holds is as what the items say
if_given : {A : Type 0} (P : A → Type 0) (given : Option A) (xs : List A) → AllByRecursion P xs → option_to_list given ≡ xs → IfSome given P
if_given P None xs h e = tt
if_given P (Some x) xs h e = let all : AllByRecursion P (x ∷ []) = subst (AllByRecursion P) (sym e) h in all.0

all_locks : (locks more : List Lock) → AllByRecursion LockHasUtf8 more → locks ≡ more → All LockHasUtf8 locks
all_locks locks more h e = All-from_recursion LockHasUtf8 locks (subst (AllByRecursion LockHasUtf8) (sym e) h)

all_utf8 : (texts more : List (List ℕ)) → AllByRecursion IsUtf8 more → texts ≡ more → All IsUtf8 texts
all_utf8 texts more h e = All-from_recursion IsUtf8 texts (subst (AllByRecursion IsUtf8) (sym e) h)

asked_utf8 : (k : Kind) (word : List ℕ) (words : List (List ℕ)) (p name : List ℕ) (by : Bool) (locks : List Lock) (journals : List (List ℕ)) (onlys : List Only) (h : AsksFor k word words p name by locks journals onlys) → AllByRecursion IsUtf8 words
    → IsUtf8 p × IsUtf8 name × All LockHasUtf8 locks × All IsUtf8 journals
asked_utf8 k word words p name by locks journals onlys h u =
    let v : AllByRecursion IsUtf8 (word ∷ p ∷ h.rest) = subst (AllByRecursion IsUtf8) h.written u in
    let i = items_utf8 k h.items (recursion_from_All (Admits k) h.items h.are_items.admitted) (subst (AllByRecursion IsUtf8) h.are_items.written v.1.1) in
    (v.1.0, format_utf8 (formats_of h.items) name i.formats h.format, all_locks locks (locks_of h.items) i.locks h.locks_are, all_utf8 journals (journals_of h.items) i.journals h.journals_are)

pub command_utf8 : (words : List (List ℕ)) (c : Command) → IsCommand words c → AllByRecursion IsUtf8 words → HasUtf8 c
command_utf8 words (settle accept p) h u =
    let v : AllByRecursion IsUtf8 (codes "settle" ∷ say_word accept ∷ p ∷ []) = subst (AllByRecursion IsUtf8) h.written u in v.1.1.0
command_utf8 words (view_text p view) h u = by h.written where
  by : ((words ≡ view_word view ∷ p ∷ []) × (view ≡ first_view view)) ⊎ (words ≡ view_word view ∷ p ∷ view_option view ∷ view_name view ∷ []) → IsUtf8 p
  by (inl w) = let v : AllByRecursion IsUtf8 (view_word view ∷ p ∷ []) = subst (AllByRecursion IsUtf8) w.0 u in v.1.0
  by (inr w) = let v : AllByRecursion IsUtf8 (view_word view ∷ p ∷ view_option view ∷ view_name view ∷ []) = subst (AllByRecursion IsUtf8) w u in v.1.0
command_utf8 words (list p name locks journals onlys) h u = asked_utf8 of_list (codes "list") words p name false locks journals onlys h u
command_utf8 words (report p name by locks journals) h u = asked_utf8 of_report (codes "report") words p name by locks journals [] h u
command_utf8 words (page p name number pictures locks journals) h u =
    let v : AllByRecursion IsUtf8 (codes "page" ∷ p ∷ h.rest) = subst (AllByRecursion IsUtf8) h.written u in
    let each = recursion_from_All (Admits of_page) h.items h.are_items.admitted in
    let i = items_utf8 of_page h.items each (subst (AllByRecursion IsUtf8) h.are_items.written v.1.1) in (
      v.1.0,
      if_given IsUtf8 name (titles_of h.items) i.titles h.title_is,
      if_given (λ n. n ≤ 9) number (ranks_of h.items) (low_ranks of_page (λ number low. low) h.items each) h.rank_is,
      all_locks locks (locks_of h.items) i.locks h.locks_are,
      all_utf8 journals (journals_of h.items) i.journals h.journals_are,
    )
command_utf8 words (write p locks journals) h u =
    let v : AllByRecursion IsUtf8 (codes "write" ∷ p ∷ h.rest) = subst (AllByRecursion IsUtf8) h.written u in
    let i = items_utf8 of_write h.items (recursion_from_All (Admits of_write) h.items h.are_items.admitted) (subst (AllByRecursion IsUtf8) h.are_items.written v.1.1) in
    (v.1.0, all_locks locks (locks_of h.items) i.locks h.locks_are, all_utf8 journals (journals_of h.items) i.journals h.journals_are)
command_utf8 words (decide p reviewer journals locks choices number) h u =
    let v : AllByRecursion IsUtf8 (codes "decide" ∷ p ∷ reviewer ∷ h.rest) = subst (AllByRecursion IsUtf8) h.written u in
    let each = recursion_from_All (Admits of_decide) h.items h.are_items.admitted in
    let i = items_utf8 of_decide h.items each (subst (AllByRecursion IsUtf8) h.are_items.written v.1.1.1) in
    (v.1.0, h.reviewer_name, all_utf8 journals (journals_of h.items) i.journals h.journals_are, all_locks locks (locks_of h.items) i.locks h.locks_are, low_rank (ranks_of h.items) number (low_ranks of_decide (λ number low. low) h.items each) h.rank)
command_utf8 words (resume p q firsts journals) h u =
    let v : AllByRecursion IsUtf8 (codes "resume" ∷ p ∷ q ∷ h.rest) = subst (AllByRecursion IsUtf8) h.written u in
    let each : AllByRecursion IsUtf8 (flat_map sitting_words h.named) = subst (AllByRecursion IsUtf8) h.journals_written v.1.1.1 in
    (v.1.0, v.1.1.0, all_utf8 firsts (firsts_of h.named) (firsts_utf8 h.named each) h.firsts_are, all_utf8 journals (seconds_of h.named) (seconds_utf8 h.named each) h.journals_are)
command_utf8 words (join journals) h u =
    let v : AllByRecursion IsUtf8 (codes "join" ∷ journals) = subst (AllByRecursion IsUtf8) h.written u in (All-from_recursion IsUtf8 journals v.1, h.some)
command_utf8 words (check p) h u = let v : AllByRecursion IsUtf8 (codes "check" ∷ p ∷ []) = subst (AllByRecursion IsUtf8) h.written u in v.1.0
command_utf8 words (sample number) h u = tt

-- ---- the same from the facts of the code

pub found : (r : Result code.Command WordsError) (words : List (List ℕ)) → Finds command_of r (command_in words) → IfOk r (λ c. IsCommand words (command_of c))
found (Ok c) words h = command_takes words (command_of c) h
found (Err e) words h = tt

pub usage : (r : Result code.Command WordsError) (words : List (List ℕ)) → Finds command_of r (command_in words) → IsErrOf r Usage → HasNoCommand words
usage (Ok c) words h is = absurd cc
usage (Err Usage) words h is = no_command words h
usage (Err NoMemory) words h is = absurd (let same = is in cc)

pub texts : (r : Result code.Command WordsError) (words : List (List ℕ)) → All IsUtf8 words → Finds command_of r (command_in words) → IfOk r (λ c. HasUtf8 (command_of c))
texts (Ok c) words u h = command_utf8 words (command_of c) (command_takes words (command_of c) h) (recursion_from_All IsUtf8 words u)
texts (Err e) words u h = tt
