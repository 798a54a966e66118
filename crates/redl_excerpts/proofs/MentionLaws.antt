-- What nodes tell of a revision after others, and that idle elements tell nothing.
use Rattle.std.proofs.Common.{◌≡◌, ℕ, Bool, true, false, List, [], ◌++◌, ◌==◌, refl, sym, ap, ◌∙◌, append_assoc, if◌then◌else◌}
use Rattle.redl_tree.specs.Model.IdleTexts.{idle_nodes}
use Rattle.redl_tree.specs.Model.Nodes.{Tag, Nodes, no_nodes, bytes, element, ◌⊕◌}
use Rattle.redl_tree.specs.Roles.Idle.{is_idle_in}
use Rattle.redl_tree.specs.Roles.Names.{is}
use Rattle.redl_tree.specs.declared.kinds.Kind.TheVariants.{Plain}
use Rattle.redl_tree.proofs.Idle.Items.{nodes_are_idle}
use Rattle.redl_tree.proofs.Idle.Tags.{Idle, idle_parts}
use Rattle.redl_excerpts.specs.Mentions.{Mention, Where, bytes_said, inside, member_told, mentions, past, told_by}
use Rattle.redl_said.specs.Ears.{along-more}
use Rattle.redl_said.specs.Said.{element_said, said}

-- ---- nodes after others

past-twice : (here : Where) (a b : List ℕ) → past (past here a) b ≡ past here (a ++ b)
past-twice here a b = ap (λ p. record here { place = p }) (along-more here.place a b)

pub mentions-⊕ : (moved : Bool) (v : ℕ) (here : Where) (x y : Nodes)
    → mentions moved v here (x ⊕ y) ≡ mentions moved v here x ++ mentions moved v (past here (said true here.in_text x)) y
mentions-⊕ moved v here no_nodes y = refl
mentions-⊕ moved v here (bytes b rest) y =
    let own = bytes_said here.in_text b in
    mentions-⊕ moved v (past here own) rest y
    ∙ ap (λ now. mentions moved v (past here own) rest ++ mentions moved v now y) (past-twice here own (said true here.in_text rest))
mentions-⊕ moved v here (element tag kids rest) y =
    let own = element_said true tag kids in
    let told = member_told moved v here tag kids ++ mentions moved v (inside here tag kids) kids in
    let later = mentions moved v (past here own) rest in
    ap (λ (ms : List Mention). told ++ ms) (mentions-⊕ moved v (past here own) rest y)
    ∙ sym (append_assoc told later (mentions moved v (past (past here own) (said true here.in_text rest)) y))
    ∙ ap (λ now. (told ++ later) ++ mentions moved v now y) (past-twice here own (said true here.in_text rest))

-- ---- no idle element is a member

nothing_told : (moved : Bool) (v : ℕ) (here : Where) (in_run : Bool) (tag : Tag) (kids : Nodes) → Idle in_run tag → member_told moved v here tag kids ≡ []
nothing_told moved v here in_run tag kids i =
    ap (λ k. if tag.rev == v then told_by moved here k tag kids else []) i.kind ∙ either (tag.rev == v)
  where
    either : (b : Bool) → (if b then told_by moved here Plain tag kids else []) ≡ []
    either true = refl
    either false = refl

idle_mentions : (moved : Bool) (v : ℕ) (here : Where) (in_run : Bool) (x : Nodes) → is_idle_in in_run x ≡ true → mentions moved v here x ≡ []
idle_mentions moved v here in_run no_nodes h = refl
idle_mentions moved v here in_run (bytes b rest) h = idle_mentions moved v (past here (bytes_said here.in_text b)) in_run rest h
idle_mentions moved v here in_run (element tag kids rest) h =
    let p = idle_parts in_run tag kids rest h in
    let there = inside here tag kids in
    let later = mentions moved v (past here (element_said true tag kids)) rest in
    ap (λ (ms : List Mention). (ms ++ mentions moved v there kids) ++ later) (nothing_told moved v here in_run tag kids p.own)
    ∙ ap (λ (ms : List Mention). ms ++ later) (idle_mentions moved v there (is "r" tag) kids p.below)
    ∙ idle_mentions moved v (past here (element_said true tag kids)) in_run rest p.later

-- so those after them tell what they tell, at a later place
pub mentions_idle : (moved : Bool) (v : ℕ) (here : Where) (t : List ℕ) (rest : Nodes)
    → mentions moved v here (idle_nodes t ⊕ rest) ≡ mentions moved v (past here (said true here.in_text (idle_nodes t))) rest
mentions_idle moved v here t rest =
    mentions-⊕ moved v here (idle_nodes t) rest
    ∙ ap (λ (ms : List Mention). ms ++ mentions moved v (past here (said true here.in_text (idle_nodes t))) rest) (idle_mentions moved v here false (idle_nodes t) (nodes_are_idle t))
