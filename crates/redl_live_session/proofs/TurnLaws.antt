-- Says that are turned into those of a book, one after the other.
use Rattle.std.proofs.Common.{◌≡◌, ◌∙◌, sym, ap, ℕ, suc, ◌+◌, ◌<◌, List, [], ◌∷◌, ◌++◌, map, drop, set, length, get_or, append-nil, append_assoc, arith}
use Rattle.std.proofs.lemmas.List.{drop_more, drop_all, map-append}
use Rattle.std.proofs.lemmas.List.FromFn.{length-map-range_with_len, map-range_with_len_more}
use Rattle.std.proofs.Math.Seq.{set-append_seam}
use Rattle.std.specs.List.{range_with_len}
use Rattle.redl_editor.specs.Changes.{setting_of}
use Rattle.redl_editor.specs.declared.changing.Change.{Change}
use Rattle.redl_laws.proofs.Leaves.Says.{set_each-append}
use Rattle.redl_tree.specs.Leaves.Settings.{set_say, set_each}
use Rattle.redl_tree.specs.declared.kinds.Say.{Say}
use Rattle.redl_tree.specs.declared.kinds.Say.TheVariants.{Keep}

-- one more change
pub set-pushed : (says : List Say) (changes : List Change) (one : Change)
    → set_each says (map setting_of (changes ++ one ∷ [])) ≡ set_say (set_each says (map setting_of changes)) one.rev one.say
set-pushed says changes one =
    ap (set_each says) (map-append setting_of changes (one ∷ [])) ∙ set_each-append says (map setting_of changes) (setting_of one ∷ [])

-- Up to a revision the says are those of `f`, and from there on those that were. Here the next one is there too.
next-said : (f : ℕ → Say) (before : ℕ) (say : Say) (rest : List Say) → say ≡ f (before + 1)
    → map f (range_with_len 1 before) ++ say ∷ rest ≡ map f (range_with_len 1 (before + 1)) ++ rest
next-said f before say rest own =
    let first : List Say = map f (range_with_len 1 before) in
    ap (λ (s : Say). first ++ s ∷ rest) own
    ∙ sym (append_assoc first (f (before + 1) ∷ []) rest)
    ∙ ap (λ (xs : List Say). xs ++ rest) (sym (map-range_with_len_more f 1 before (before + 1) (omega arith)))

-- it is set
pub turned-next : (says said : List Say) (f : ℕ → Say) (before : ℕ) (say : Say) → before < length says
    → said ≡ map f (range_with_len 1 before) ++ drop before says → say ≡ f (before + 1)
    → set_say said (before + 1) say ≡ map f (range_with_len 1 (before + 1)) ++ drop (before + 1) says
turned-next says said f before say lt is own =
    let first : List Say = map f (range_with_len 1 before) in
    let rest : List Say = drop (before + 1) says in
    let one : before + 1 ≡ suc before = omega arith in
    ap (λ (n : ℕ). set_say said n say) one
    ∙ ap (λ (xs : List Say). set xs before say) (is ∙ ap (λ (xs : List Say). first ++ xs) (drop_more says before Keep lt))
    ∙ ap (λ (n : ℕ). set (first ++ get_or says before Keep ∷ rest) n say) (sym (length-map-range_with_len f 1 before))
    ∙ set-append_seam first (get_or says before Keep) rest say
    ∙ next-said f before say rest own

-- it is said already
pub turned-same : (says said : List Say) (f : ℕ → Say) (before : ℕ) (say : Say) → before < length says
    → said ≡ map f (range_with_len 1 before) ++ drop before says → say ≡ f (before + 1) → get_or says before Keep ≡ say
    → said ≡ map f (range_with_len 1 (before + 1)) ++ drop (before + 1) says
turned-same says said f before say lt is own same =
    let first : List Say = map f (range_with_len 1 before) in
    let rest : List Say = drop (before + 1) says in
    is ∙ ap (λ (xs : List Say). first ++ xs) (drop_more says before Keep lt)
    ∙ ap (λ (s : Say). first ++ s ∷ rest) same
    ∙ next-said f before say rest own

-- all of them
pub turned-all : (says said : List Say) (f : ℕ → Say) (before count : ℕ) → length says ≡ count → before ≡ count
    → said ≡ map f (range_with_len 1 before) ++ drop before says → said ≡ map f (range_with_len 1 count)
turned-all says said f before count long done is =
    let first : List Say = map f (range_with_len 1 before) in
    is ∙ ap (λ (xs : List Say). first ++ xs) (drop_all before says (omega (arith, long, done)))
    ∙ append-nil first
    ∙ ap (λ (n : ℕ). map f (range_with_len 1 n)) done
