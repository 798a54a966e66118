-- Worked rows: what comments say, and their threads, by computing (ECMA-376 Part 1, 17.13.4).
use Rattle.std.proofs.Common.{◌≡◌, ℕ, List, [], ◌∷◌, codes, Some, None, Bool, true, false, refl}
use Rattle.redl_comments.specs.Comments.{beginning, last_paragraph_or}
use Rattle.redl_comments.specs.Threads.{is_done, threads_of}
use Rattle.redl_comments.specs.declared.comment.Comment.{Comment}
use Rattle.redl_comments.specs.declared.state.State.{State}
use Rattle.redl_tree.specs.Model.Nodes.{◌⊕◌}
use Rattle.redl_tree.proofs.Model.Build.{opened, opened_with, closed, run}
use Rattle.redl_markup.specs.Attributes.{attributes_of}
use Rattle.redl_said.specs.Phrases.{heard_byte, begun, paused}
use Rattle.redl_grammar.specs.Characters.{is_name_start, is_name_character, is_space}
use Rattle.redl_grammar.specs.Names.{may_start, may_follow}
use Rattle.redl_grammar.specs.ScanNames.{name_at, word_at, char_at, name_end, name_step}
use Rattle.redl_grammar.specs.ScanTags.{attribute_in, attribute_at, equated_at, quoted_at, quote_at, is_value}
use Rattle.redl_reading.specs.Lists.{field_at}

-- ---- one comment

-- its paragraphs with a space between them
text_of_two : beginning (opened "p" (opened "r" (closed "annotationRef" "") ⊕ run "Not agreed.") ⊕ opened "p" (run "See 4.2.")) ≡ codes "Not agreed. See 4.2."
unfolding heard_byte begun paused
text_of_two = refl

last_of_two : last_paragraph_or [] (opened_with "p" " w14:paraId=\"0A\"" (run "a") ⊕ opened_with "p" " w14:paraId=\"0B\"" (run "b")) ≡ codes "0B"
unfolding attributes_of attribute_in attribute_at name_at word_at char_at name_end name_step may_start may_follow is_name_start is_name_character is_space equated_at quoted_at field_at quote_at is_value
last_of_two = refl

-- ---- threads

comment : List ℕ → Comment
comment last = record { id = []; author = []; seconds = None; text = []; last_paragraph = last }

state : List ℕ → List ℕ → Bool → State
state paragraph parent done = record { paragraph = paragraph; parent = parent; is_done = done }

-- a comment with a reply and a reply to that, of which the first is done, and one without a paragraph
abbrev four : List Comment
four = comment (codes "A") ∷ comment (codes "B") ∷ comment (codes "C") ∷ comment [] ∷ []

abbrev said : List State
said = state (codes "B") (codes "A") false ∷ state (codes "C") (codes "B") false ∷ state (codes "A") [] true ∷ state [] (codes "A") true ∷ []

replies : (threads_of four said).parents ≡ None ∷ Some 0 ∷ Some 1 ∷ None ∷ []
unfolding comment state
replies = refl

done_first : is_done (threads_of four said) 0 ≡ true
unfolding comment state
done_first = refl

done_replies : is_done (threads_of four said) 2 ≡ true
unfolding comment state
done_replies = refl

not_done : is_done (threads_of four said) 3 ≡ false
unfolding comment state
not_done = refl

-- the first state of a comment counts
first_state : (threads_of four (state (codes "A") [] false ∷ said)).done ≡ false ∷ false ∷ false ∷ false ∷ []
unfolding comment state
first_state = refl

-- two that reply to each other end
in_a_ring : is_done (threads_of four (state (codes "A") (codes "B") false ∷ state (codes "B") (codes "A") false ∷ [])) 0 ≡ false
unfolding comment state
in_a_ring = refl
