-- Marks can be told from what follows them.
use Rattle.std.proofs.Common.{◌≡◌, ◌+◌, ℕ, List, [], ◌∷◌, ◌++◌, codes, refl, sym, ap, ◌∙◌, append_assoc, eqb, if◌then◌else◌, arith}
use Rattle.redl_reading.specs.Lists.{begins}
use Rattle.redl_shown.specs.Shown.{shown}
use Rattle.redl_bare.specs.Marks.{Stamp, Mark, Marks, sign_place}
use Rattle.redl_bare.specs.BareText.{escaped, stamp_text, sign_name, mark_text, marks_text}
use Rattle.redl_marks.specs.declared.sign.Sign.{Sign}
use Rattle.redl_marks.specs.declared.sign.Sign.TheVariants.{Inserted, Deleted, MovedTo, MovedFrom, Formatted}
use Rattle.redl_bare_sound.specs.Said.{said_stamp, said_mark, said_marks}
use Rattle.redl_bare_sound.proofs.Splits.{tail_of, cancel, before_tab, before_line}

-- ---- a stamp before a tab or a newline

stamp_more : (s : Stamp) (end : ℕ) (X : List ℕ) → stamp_text s ++ (end ∷ X) ≡ escaped (shown s.author) ++ (9 ∷ (escaped (shown s.minute) ++ (end ∷ X)))
stamp_more s end X = append_assoc (escaped (shown s.author)) (9 ∷ escaped (shown s.minute)) (end ∷ X)

said_by : (s t : Stamp) → shown s.author ≡ shown t.author → shown s.minute ≡ shown t.minute → said_stamp s ≡ said_stamp t
said_by s t e f =
    ap (λ a. record { author = a; minute = shown s.minute }) e ∙ ap (λ m. record { author = shown t.author; minute = m }) f

pub stamp_before_tab : (s t : Stamp) (X Y : List ℕ) → stamp_text s ++ (9 ∷ X) ≡ stamp_text t ++ (9 ∷ Y) → (said_stamp s ≡ said_stamp t) × (X ≡ Y)
stamp_before_tab s t X Y h =
    let author = before_tab (shown s.author) (shown t.author) (escaped (shown s.minute) ++ (9 ∷ X)) (escaped (shown t.minute) ++ (9 ∷ Y)) (sym (stamp_more s 9 X) ∙ h ∙ stamp_more t 9 Y) in
    let minute = before_tab (shown s.minute) (shown t.minute) X Y author.1 in
    (said_by s t author.0 minute.0, minute.1)

pub stamp_before_line : (s t : Stamp) (X Y : List ℕ) → stamp_text s ++ (10 ∷ X) ≡ stamp_text t ++ (10 ∷ Y) → (said_stamp s ≡ said_stamp t) × (X ≡ Y)
stamp_before_line s t X Y h =
    let author = before_tab (shown s.author) (shown t.author) (escaped (shown s.minute) ++ (10 ∷ X)) (escaped (shown t.minute) ++ (10 ∷ Y)) (sym (stamp_more s 10 X) ∙ h ∙ stamp_more t 10 Y) in
    let minute = before_line (shown s.minute) (shown t.minute) X Y author.1 in
    (said_by s t author.0 minute.0, minute.1)

-- ---- signs have places of their own

abbrev sign_at : ℕ → Sign
sign_at n = if eqb n 0 then Inserted else if eqb n 1 then Deleted else if eqb n 2 then MovedTo else if eqb n 3 then MovedFrom else Formatted

sign_back : (sign : Sign) → sign_at (sign_place sign) ≡ sign
sign_back Inserted = refl
sign_back Deleted = refl
sign_back MovedTo = refl
sign_back MovedFrom = refl
sign_back Formatted = refl

pub same_sign : (s t : Sign) → sign_place s ≡ sign_place t → s ≡ t
same_sign s t e = sym (sign_back s) ∙ ap sign_at e ∙ sign_back t

-- ---- which mark a text begins with

abbrev which : List ℕ → ℕ
which xs =
    if begins (codes "ins") xs then 1
    else if begins (codes "del") xs then 2
    else if begins (codes "move-to") xs then 3
    else if begins (codes "move-from") xs then 4
    else if begins (codes "run-props") xs then 5
    else 0

-- what ends marks: the sign of a text or of a thing
pub data IsEnd : ℕ → Type 0 where
  of_text : IsEnd 124
  of_thing : IsEnd 42

which_end : (c : ℕ) (R : List ℕ) → IsEnd c → which (c ∷ R) ≡ 0
which_end _ R of_text = refl
which_end _ R of_thing = refl

which_sign : (sign : Sign) (X : List ℕ) → which (sign_name sign ++ X) ≡ sign_place sign + 1
which_sign Inserted X = refl
which_sign Deleted X = refl
which_sign MovedTo X = refl
which_sign MovedFrom X = refl
which_sign Formatted X = refl

-- ---- marks before such a sign

mark_more : (mark : Mark) (X : List ℕ) → mark_text mark ++ X ≡ sign_name mark.sign ++ (9 ∷ (stamp_text mark.stamp ++ (9 ∷ X)))
mark_more mark X =
    append_assoc (sign_name mark.sign) (9 ∷ (stamp_text mark.stamp ++ (9 ∷ []))) X
    ∙ ap (λ l. sign_name mark.sign ++ (9 ∷ l)) (append_assoc (stamp_text mark.stamp) (9 ∷ []) X)

marks_more : (mark : Mark) (marks : Marks) (X : List ℕ) → marks_text (mark ∷ marks) ++ X ≡ mark_text mark ++ (marks_text marks ++ X)
marks_more mark marks X = append_assoc (mark_text mark) (marks_text marks) X

which_mark : (mark : Mark) (marks : Marks) (X : List ℕ) → which (marks_text (mark ∷ marks) ++ X) ≡ sign_place mark.sign + 1
which_mark mark marks X =
    ap which (marks_more mark marks X ∙ mark_more mark (marks_text marks ++ X)) ∙ which_sign mark.sign (9 ∷ (stamp_text mark.stamp ++ (9 ∷ (marks_text marks ++ X))))

no_mark : (c : ℕ) (R : List ℕ) (mark : Mark) (marks : Marks) (X : List ℕ) → IsEnd c → c ∷ R ≡ marks_text (mark ∷ marks) ++ X → ⊥
no_mark c R mark marks X end h =
    let e : 0 ≡ sign_place mark.sign + 1 = sym (which_end c R end) ∙ ap which h ∙ which_mark mark marks X in
    omega (arith, e)

said_by_sign : (m k : Mark) → m.sign ≡ k.sign → said_stamp m.stamp ≡ said_stamp k.stamp → said_mark m ≡ said_mark k
said_by_sign m k e f = ap (λ s. record { sign = s; stamp = said_stamp m.stamp }) e ∙ ap (λ s. record { sign = k.sign; stamp = s }) f

-- two texts that begin with a mark begin with the same one
mark_split : (m k : Mark) (X Y : List ℕ) → mark_text m ++ X ≡ mark_text k ++ Y → (said_mark m ≡ said_mark k) × (X ≡ Y)
mark_split m k X Y h =
    let left : List ℕ = 9 ∷ (stamp_text m.stamp ++ (9 ∷ X)) in
    let right : List ℕ = 9 ∷ (stamp_text k.stamp ++ (9 ∷ Y)) in
    let both : sign_name m.sign ++ left ≡ sign_name k.sign ++ right = sym (mark_more m X) ∙ h ∙ mark_more k Y in
    let place : sign_place m.sign + 1 ≡ sign_place k.sign + 1 = sym (which_sign m.sign left) ∙ ap which both ∙ which_sign k.sign right in
    let sign : m.sign ≡ k.sign = same_sign m.sign k.sign (omega (arith, place)) in
    let later : left ≡ right = cancel (sign_name k.sign) left right (ap (λ s. sign_name s ++ left) (sym sign) ∙ both) in
    let stamp = stamp_before_tab m.stamp k.stamp X Y (ap tail_of later) in
    (said_by_sign m k sign stamp.0, stamp.1)

pub marks_split : (m k : Marks) (c d : ℕ) (R S : List ℕ) → IsEnd c → IsEnd d → marks_text m ++ (c ∷ R) ≡ marks_text k ++ (d ∷ S) → (said_marks m ≡ said_marks k) × (c ∷ R ≡ d ∷ S)
marks_split [] [] c d R S e f h = (refl, h)
marks_split [] (b ∷ k) c d R S e f h = absurd (no_mark c R b k (d ∷ S) e h)
marks_split (a ∷ m) [] c d R S e f h = absurd (no_mark d S a m (c ∷ R) f (sym h))
marks_split (a ∷ m) (b ∷ k) c d R S e f h =
    let first = mark_split a b (marks_text m ++ (c ∷ R)) (marks_text k ++ (d ∷ S)) (sym (marks_more a m (c ∷ R)) ∙ h ∙ marks_more b k (d ∷ S)) in
    let later = marks_split m k c d R S e f first.1 in
    (ap (λ s. s ∷ said_marks m) first.0 ∙ ap (λ l. said_mark b ∷ l) later.0, later.1)

-- ---- what a line begins with

-- nothing, the sign of a member, that of a story, or marks
abbrev pub sort_of : List ℕ → ℕ
sort_of [] = 0
sort_of (x ∷ xs) = if eqb x 43 then 1 else if eqb x 61 then 2 else 3

sort_sign : (sign : Sign) (X : List ℕ) → sort_of (sign_name sign ++ X) ≡ 3
sort_sign Inserted X = refl
sort_sign Deleted X = refl
sort_sign MovedTo X = refl
sort_sign MovedFrom X = refl
sort_sign Formatted X = refl

sort_end : (c : ℕ) (R : List ℕ) → IsEnd c → sort_of (c ∷ R) ≡ 3
sort_end _ R of_text = refl
sort_end _ R of_thing = refl

pub sort_marks : (m : Marks) (c : ℕ) (R : List ℕ) → IsEnd c → sort_of (marks_text m ++ (c ∷ R)) ≡ 3
sort_marks [] c R end = sort_end c R end
sort_marks (a ∷ m) c R end =
    ap sort_of (marks_more a m (c ∷ R) ∙ mark_more a (marks_text m ++ (c ∷ R))) ∙ sort_sign a.sign (9 ∷ (stamp_text a.stamp ++ (9 ∷ (marks_text m ++ (c ∷ R)))))
