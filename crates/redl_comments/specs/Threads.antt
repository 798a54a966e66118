-- Which comment a comment replies to, and whether it is done (our own rule). Comments are known by their places in their part, from 0. Of
-- several with one key the first counts, and no text without characters is a key.
use Rattle.std.specs.Prelude.{ℕ, zero, suc, ◌+◌, ◌||◌, Bool, false, List, [], ◌∷◌, map, bytes_eq, slice_get, unwrap_or, Option, Some, None, option_and_then, if◌then◌else◌}
use Rattle.redl_tree.specs.Model.Nodes.{Nodes}
use Rattle.redl_comments.specs.Comments.{comments_of, states_of}
use Rattle.redl_comments.specs.declared.comment.Comment.{Comment}
use Rattle.redl_comments.specs.declared.state.State.{State}

-- of each comment the one that it replies to, and whether it is itself said to be done
pub record Threads : Type 0 where
  pub parents : List (Option ℕ)
  pub done : List Bool

-- the place of the first of these keys that is this one, where the first of them has the place n
abbrev pub place_from : ℕ → List (List ℕ) → List ℕ → Option ℕ
place_from n [] key = None
place_from n (own ∷ more) key = if bytes_eq own key then Some n else place_from (n + 1) more key

abbrev pub place_of : List (List ℕ) → List ℕ → Option ℕ
place_of keys [] = None
place_of keys (b ∷ bs) = place_from 0 keys (b ∷ bs)

abbrev pub last_paragraphs : List Comment → List (List ℕ)
last_paragraphs comments = map (λ comment. comment.last_paragraph) comments

abbrev pub state_paragraphs : List State → List (List ℕ)
state_paragraphs states = map (λ state. state.paragraph) states

-- the state of a comment, if it is said
abbrev pub own_state : List State → Comment → Option State
own_state states comment = option_and_then (slice_get states) (place_of (state_paragraphs states) comment.last_paragraph)

-- the comment that one with this state replies to, where comments have these last paragraphs
abbrev pub parent_by : List (List ℕ) → Option State → Option ℕ
parent_by ends None = None
parent_by ends (Some state) = place_of ends state.parent

abbrev pub parent_of : List Comment → List State → Comment → Option ℕ
parent_of comments states comment = parent_by (last_paragraphs comments) (own_state states comment)

abbrev pub done_if : Option State → Bool
done_if None = false
done_if (Some state) = state.is_done

abbrev pub is_said_done : List State → Comment → Bool
is_said_done states comment = done_if (own_state states comment)

abbrev pub threads_of : List Comment → List State → Threads
threads_of comments states = record {
  parents = map (parent_of comments states) comments;
  done = map (is_said_done states) comments;
}

abbrev pub parent_at : Threads → ℕ → Option ℕ
parent_at threads place = unwrap_or (slice_get threads.parents place) None

abbrev pub done_at : Threads → ℕ → Bool
done_at threads place = unwrap_or (slice_get threads.done place) false

-- whether one of the next n comments of a thread is itself said to be done, of which the first has this place
abbrev pub any_done : ℕ → Threads → Option ℕ → Bool
any_done zero threads place = false
any_done (suc n) threads None = false
any_done (suc n) threads (Some place) = done_at threads place || any_done n threads (parent_at threads place)

-- a reply to a done comment is done; a hundred comments of a thread are looked at
abbrev pub is_done : Threads → ℕ → Bool
is_done threads place = any_done 100 threads (Some place)

abbrev pub package_threads : Nodes → Threads
package_threads nodes = threads_of (comments_of nodes) (states_of nodes)
