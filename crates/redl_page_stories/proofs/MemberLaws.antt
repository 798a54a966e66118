-- Each member of a revision has an element with the number of the revision.
use Rattle.std.proofs.Common.{◌≡◌, ℕ, List, [], ◌∷◌, ◌++◌, filter_map, Bool, true, false, ◌&&◌, ◌||◌, not, ◌⊎◌, inl, inr, Option, Some, None, option_map, refl, sym, ap, ◌∙◌, subst, eqb, if◌then◌else◌}
use Rattle.std.proofs.lemmas.Bool.{and_parts, or_left, or_cases, and_from}
use Rattle.std.specs.List.{list_any, cons_option}
use Rattle.redl_tree.specs.Model.Nodes.{Tag, Nodes, no_nodes, bytes, element}
use Rattle.redl_tree.specs.Roles.Names.{is}
use Rattle.redl_tree.specs.Roles.Places.{is_quiet, is_open, within, is_range_edge, role, placed, first_role, change_at, in_mark_props, in_para_props, in_props, in_row_props, in_cell_props, trace_of, row_trace_of, cell_trace_of, prop_of}
use Rattle.redl_tree.specs.Decisions.Packages.{is_story_root, stories}
use Rattle.redl_tree.specs.Revisions.Markers.{Value}
use Rattle.redl_tree.specs.Revisions.Numbers.{IsIndexed}
use Rattle.redl_tree.specs.declared.kinds.Trace.{Trace}
use Rattle.redl_tree.specs.declared.kinds.Trace.TheVariants.{Ins, Del, From, To}
use Rattle.redl_tree.specs.declared.kinds.Prop.{Prop}
use Rattle.redl_tree.specs.declared.kinds.Prop.TheVariants as props
use Rattle.redl_tree.specs.declared.kinds.Kind.{Kind}
use Rattle.redl_tree.specs.declared.kinds.Kind.TheVariants.{Plain, Content, Mark, Row, Cell, Change, Marker}
use Rattle.redl_tree.proofs.Roles.Named.{by_name, by_names}
use Rattle.redl_tree.proofs.Roles.Fits.{Fits, AllFit, OpenKind, plain, content, marker, open_fits}
use Rattle.redl_laws.proofs.Survival.Indexed.{IsStory, AreStories, indexed_stories}
use Rattle.redl_index.specs.declared.revision.Revision.{Revision}
use Rattle.redl_opc.specs.Elements.{Element}
use Rattle.redl_opc.specs.Parts.{name_in}
use Rattle.redl_opc.specs.Shape.{parts_of, story_of, refusal}
use Rattle.redl_opc.proofs.StoryLaws.{stories-parts}
use Rattle.redl_page_stories.specs.declared.marks.Depth.TheVariants.{Kids, Properties, RunProperties}
use Rattle.redl_page_stories.specs.declared.place.PageSummary.{PageSummary}
use Rattle.redl_page_stories.specs.declared.shape.Shape.TheVariants.{Division, Paragraph}
use Rattle.redl_html.specs.Pieces.{HtmlPiece, own}
use Rattle.redl_html.proofs.NumberLaws.{has-left, has-right}
use Rattle.redl_page_stories.specs.Shapes.{shape_of, holds_blocks}
use Rattle.redl_page_stories.specs.Signs.{opens_number, has_element, before, member, is_member, has_member}
use Rattle.redl_page_stories.specs.Facts.{Facts, package_facts}
use Rattle.redl_page_stories.specs.Document.{bytes_pieces, document_pieces, element_pieces, end_as, in_story, inside, is_first_after, is_sort, marks_in, nodes_pieces, section, section_heading, section_in, section_start, sections, start_as, stories_pieces}
use Rattle.redl_page_stories.specs.Inside.Items.{element_marks}

-- ---- the element of a member

opens_before : (kind : Kind) → is_member kind ≡ true → opens_number (own (before kind)) ≡ true
opens_before Plain h = cc
opens_before (Content Ins) h = refl
opens_before (Content Del) h = refl
opens_before (Content From) h = refl
opens_before (Content To) h = refl
opens_before (Mark Ins) h = refl
opens_before (Mark Del) h = refl
opens_before (Mark From) h = refl
opens_before (Mark To) h = refl
opens_before (Row Ins) h = refl
opens_before (Row Del) h = refl
opens_before (Row From) h = refl
opens_before (Row To) h = refl
opens_before (Cell Ins) h = refl
opens_before (Cell Del) h = refl
opens_before (Cell From) h = refl
opens_before (Cell To) h = refl
opens_before (Change props.Run) h = refl
opens_before (Change props.Para) h = refl
opens_before (Change props.Sect) h = refl
opens_before (Change props.Table) h = refl
opens_before (Change props.Except) h = refl
opens_before (Change props.Row) h = refl
opens_before (Change props.Cell) h = refl
opens_before Marker h = cc

member-has : (revisions : List Revision) (kind : Kind) (rev v : ℕ) → is_member kind ≡ true → eqb rev v ≡ true → has_element v (member revisions kind rev) ≡ true
member-has revisions kind rev v h e =
    or_left (opens_number (own (before kind)) && eqb rev v) _ (and_from (opens_number (own (before kind))) (eqb rev v) (opens_before kind h) e)

-- ---- roles

past_content : (o : Bool) (t : Option Trace) (kinds : List (Option Kind)) (trace : Trace) → first_role (placed o (option_map Content t) ∷ kinds) ≡ Mark trace → first_role kinds ≡ Mark trace
past_content true None kinds trace e = e
past_content true (Some x) kinds trace e = cc
past_content false t kinds trace e = e

past_row : (o : Bool) (t : Option Trace) (kinds : List (Option Kind)) (trace : Trace) → first_role (placed o (option_map Row t) ∷ kinds) ≡ Mark trace → first_role kinds ≡ Mark trace
past_row true None kinds trace e = e
past_row true (Some x) kinds trace e = cc
past_row false t kinds trace e = e

past_cell : (o : Bool) (t : Option Trace) (kinds : List (Option Kind)) (trace : Trace) → first_role (placed o (option_map Cell t) ∷ kinds) ≡ Mark trace → first_role kinds ≡ Mark trace
past_cell true None kinds trace e = e
past_cell true (Some x) kinds trace e = cc
past_cell false t kinds trace e = e

no_change : (ancestors : List Tag) (prop : Option Prop) (trace : Trace) → first_role (change_at ancestors prop ∷ []) ≡ Mark trace → ⊥
no_change ancestors None trace e = cc
no_change ancestors (Some prop) trace e = at (in_props prop ancestors) e
  where
    at : (b : Bool) → first_role (placed b (Some (Change prop)) ∷ []) ≡ Mark trace → ⊥
    at true e = cc
    at false e = cc

-- an element with the role of a mark is in the run properties of a paragraph's mark
mark_place : (ancestors : List Tag) (tag : Tag) (trace : Trace) → role ancestors tag ≡ Mark trace → in_mark_props ancestors ≡ true
mark_place ancestors tag trace e = at (in_mark_props ancestors) (past_content (is_open ancestors) (trace_of tag) _ trace e)
  where
    at : (m : Bool) → first_role (placed m (option_map Mark (trace_of tag)) ∷ placed (in_row_props ancestors) (option_map Row (row_trace_of tag)) ∷ placed (in_cell_props ancestors) (option_map Cell (cell_trace_of tag)) ∷ change_at ancestors (prop_of tag) ∷ []) ≡ Mark trace → m ≡ true
    at true h = refl
    at false h =
        absurd (no_change ancestors (prop_of tag) trace (past_cell (in_cell_props ancestors) (cell_trace_of tag) _ trace (past_row (in_row_props ancestors) (row_trace_of tag) _ trace h)))

fits_mark : (ancestors : List Tag) (tag : Tag) (trace : Trace) → Fits ancestors tag → tag.kind ≡ Mark trace → in_mark_props ancestors ≡ true
fits_mark ancestors tag trace (inl r) k = mark_place ancestors tag trace (sym r ∙ k)
fits_mark ancestors tag trace (inr m) k = absurd (differ (sym m.kind ∙ k))
  where
    differ : Marker ≡ Mark trace → ⊥
    differ e = cc

-- an open paragraph is in no revision
paragraph_plain : (ancestors : List Tag) (tag : Tag) → is "p" tag ≡ true → is_open ancestors ≡ true → Fits ancestors tag → tag.kind ≡ Plain
paragraph_plain ancestors tag p o fit = at (open_fits ancestors tag o fit) (by_name (λ t. trace_of t ≡ None) "p" tag p refl) (by_name (λ t. is_range_edge t ≡ false) "p" tag p refl)
  where
    at : OpenKind tag → trace_of tag ≡ None → is_range_edge tag ≡ false → tag.kind ≡ Plain
    at (plain k t) none edge = k
    at (content t k e) none edge = cc
    at (marker k e) none edge = cc

-- ---- where marks wait for the end of their paragraph

-- the element waits among the marks of a paragraph, of which these nodes are the kids, the properties, or the run properties
data Waits (revisions : List Revision) (v : ℕ) (ancestors : List Tag) (nodes : Nodes) : Type 0 where
  in_run : in_mark_props ancestors ≡ true → has_element v (marks_in revisions RunProperties nodes) ≡ true → Waits revisions v ancestors nodes
  in_para : in_para_props ancestors ≡ true → has_element v (marks_in revisions Properties nodes) ≡ true → Waits revisions v ancestors nodes
  in_kids : within ("p" ∷ []) ancestors ≡ true → has_element v (marks_in revisions Kids nodes) ≡ true → Waits revisions v ancestors nodes

-- a node more before these
waits_rest : (revisions : List Revision) (v : ℕ) (ancestors : List Tag) (tag : Tag) (kids rest : Nodes) → Waits revisions v ancestors rest → Waits revisions v ancestors (element tag kids rest)
waits_rest revisions v ancestors tag kids rest (in_run p h) = in_run p (has-right opens_number v (element_marks revisions RunProperties tag kids) (marks_in revisions RunProperties rest) h)
waits_rest revisions v ancestors tag kids rest (in_para p h) = in_para p (has-right opens_number v (element_marks revisions Properties tag kids) (marks_in revisions Properties rest) h)
waits_rest revisions v ancestors tag kids rest (in_kids p h) = in_kids p (has-right opens_number v (element_marks revisions Kids tag kids) (marks_in revisions Kids rest) h)

waits_bytes : (revisions : List Revision) (v : ℕ) (ancestors : List Tag) (b : List ℕ) (rest : Nodes) → Waits revisions v ancestors rest → Waits revisions v ancestors (bytes b rest)
waits_bytes revisions v ancestors b rest (in_run p h) = in_run p h
waits_bytes revisions v ancestors b rest (in_para p h) = in_para p h
waits_bytes revisions v ancestors b rest (in_kids p h) = in_kids p h

-- the member itself
waits_here : (revisions : List Revision) (v : ℕ) (ancestors : List Tag) (tag : Tag) (kids rest : Nodes) (trace : Trace) → tag.kind ≡ Mark trace → eqb tag.rev v ≡ true → in_mark_props ancestors ≡ true
    → Waits revisions v ancestors (element tag kids rest)
waits_here revisions v ancestors tag kids rest trace k e p =
    in_run p (has-left opens_number v (element_marks revisions RunProperties tag kids) (marks_in revisions RunProperties rest)
    (rw k (member-has revisions (Mark trace) tag.rev v refl e)))

-- ---- nodes

module _ (shown : List ℕ → List ℕ) (facts : Facts) (v : ℕ) where
  abbrev Found : PageSummary → List Tag → Nodes → Type 0
  Found place ancestors nodes = (has_element v (nodes_pieces shown facts place nodes) ≡ true) ⊎ Waits facts.revisions v ancestors nodes

  found_start : (place : PageSummary) (ancestors : List Tag) (tag : Tag) (kids rest : Nodes) → has_element v (start_as facts (shape_of facts.hidden place tag kids) tag kids tag.kind) ≡ true → Found place ancestors (element tag kids rest)
  found_start place ancestors tag kids rest h =
      inl (has-left opens_number v (element_pieces facts place tag kids (nodes_pieces shown facts (inside facts.hidden tag kids place) kids)) (nodes_pieces shown facts place rest)
      (has-left opens_number v (start_as facts (shape_of facts.hidden place tag kids) tag kids tag.kind) (nodes_pieces shown facts (inside facts.hidden tag kids place) kids ++ end_as facts.revisions (shape_of facts.hidden place tag kids) kids tag.kind) h))

  found_inner : (place : PageSummary) (ancestors : List Tag) (tag : Tag) (kids rest : Nodes) → has_element v (nodes_pieces shown facts (inside facts.hidden tag kids place) kids ++ end_as facts.revisions (shape_of facts.hidden place tag kids) kids tag.kind) ≡ true →
      Found place ancestors (element tag kids rest)
  found_inner place ancestors tag kids rest h =
      inl (has-left opens_number v (element_pieces facts place tag kids (nodes_pieces shown facts (inside facts.hidden tag kids place) kids)) (nodes_pieces shown facts place rest)
      (has-right opens_number v (start_as facts (shape_of facts.hidden place tag kids) tag kids tag.kind) (nodes_pieces shown facts (inside facts.hidden tag kids place) kids ++ end_as facts.revisions (shape_of facts.hidden place tag kids) kids tag.kind) h))

  -- an element that is a member
  found_here : (place : PageSummary) (ancestors : List Tag) (tag : Tag) (kids rest : Nodes) (kind : Kind) → tag.kind ≡ kind → is_member kind ≡ true → eqb tag.rev v ≡ true → Fits ancestors tag →
      Found place ancestors (element tag kids rest)
  found_here place ancestors tag kids rest Plain k m e fit = cc
  found_here place ancestors tag kids rest (Content trace) k m e fit =
      found_start place ancestors tag kids rest (rw k (member-has facts.revisions (Content trace) tag.rev v refl e))
  found_here place ancestors tag kids rest (Mark trace) k m e fit = inr (waits_here facts.revisions v ancestors tag kids rest trace k e (fits_mark ancestors tag trace fit k))
  found_here place ancestors tag kids rest (Row trace) k m e fit = found_start place ancestors tag kids rest (rw k (member-has facts.revisions (Row trace) tag.rev v refl e))
  found_here place ancestors tag kids rest (Cell trace) k m e fit = found_start place ancestors tag kids rest (rw k (member-has facts.revisions (Cell trace) tag.rev v refl e))
  found_here place ancestors tag kids rest (Change prop) k m e fit = found_start place ancestors tag kids rest (rw k (member-has facts.revisions (Change prop) tag.rev v refl e))
  found_here place ancestors tag kids rest Marker k m e fit = cc

  -- the end of an open paragraph has its marks
  paragraph_end : (tag : Tag) (kids : Nodes) (place : PageSummary) → place.loud ≡ true → is "p" tag ≡ true → tag.kind ≡ Plain → has_element v (marks_in facts.revisions Kids kids) ≡ true →
      has_element v (end_as facts.revisions (shape_of facts.hidden place tag kids) kids tag.kind) ≡ true
  paragraph_end tag kids place o p k h = rw (k, o, p) (at (holds_blocks kids))
    where
      at : (b : Bool) → has_element v (end_as facts.revisions (if b then Division else Paragraph) kids Plain) ≡ true
      at true = has-left opens_number v (marks_in facts.revisions Kids kids) _ h
      at false = has-left opens_number v (marks_in facts.revisions Kids kids) _ h

  -- what waits among the kids of an element
  found_waiting : (place : PageSummary) (ancestors : List Tag) (tag : Tag) (kids rest : Nodes) → place.loud ≡ is_open ancestors → Fits ancestors tag → Waits facts.revisions v (tag ∷ ancestors) kids →
      Found place ancestors (element tag kids rest)
  found_waiting place ancestors tag kids rest o fit (in_run p h) =
      let both = and_parts (is "rPr" tag) (in_para_props ancestors) p in
      inr (in_para both.1 (has-left opens_number v (element_marks facts.revisions Properties tag kids) (marks_in facts.revisions Properties rest) (rw both.0 h)))
  found_waiting place ancestors tag kids rest o fit (in_para p h) =
      let both = and_parts (is "pPr" tag) (within ("p" ∷ []) ancestors) p in
      inr (in_kids both.1 (has-left opens_number v (element_marks facts.revisions Kids tag kids) (marks_in facts.revisions Kids rest) (rw both.0 h)))
  found_waiting place ancestors tag kids rest o fit (in_kids p h) =
      let both = and_parts (is "p" tag) (is_open ancestors) p in
      found_inner place ancestors tag kids rest
      (has-right opens_number v (nodes_pieces shown facts (inside facts.hidden tag kids place) kids) (end_as facts.revisions (shape_of facts.hidden place tag kids) kids tag.kind)
      (paragraph_end tag kids place (o ∙ both.1) both.0 (paragraph_plain ancestors tag both.0 both.1 fit) h))

  inside_open : (tag : Tag) (ancestors : List Tag) (loud : Bool) → loud ≡ is_open ancestors → (loud && not (is_quiet tag)) ≡ is_open (tag ∷ ancestors)
  inside_open tag ancestors loud e = ap (λ b. b && not (is_quiet tag)) e ∙ at (is_quiet tag) (list_any is_quiet ancestors)
    where
      at : (q any : Bool) → (not any && not q) ≡ not (q || any)
      at true true = refl
      at true false = refl
      at false true = refl
      at false false = refl

  found : (place : PageSummary) (ancestors : List Tag) (nodes : Nodes) → place.loud ≡ is_open ancestors → AllFit ancestors nodes → has_member v nodes ≡ true → Found place ancestors nodes
  found place ancestors no_nodes o fit h = cc
  found place ancestors (bytes b rest) o fit h = at (found place ancestors rest o fit h)
    where
      at : Found place ancestors rest → Found place ancestors (bytes b rest)
      at (inl here) = inl (has-right opens_number v (bytes_pieces shown place b) (nodes_pieces shown facts place rest) here)
      at (inr waits) = inr (waits_bytes facts.revisions v ancestors b rest waits)
  found place ancestors (element tag kids rest) o fit h =
      by (or_cases ((is_member tag.kind && eqb tag.rev v) || has_member v kids) (has_member v rest) h)
      (λ m. found (inside facts.hidden tag kids place) (tag ∷ ancestors) kids (inside_open tag ancestors place.loud o) fit.1 m) (λ m. found place ancestors rest o fit.2 m)
    where
      below : Found (inside facts.hidden tag kids place) (tag ∷ ancestors) kids → Found place ancestors (element tag kids rest)
      below (inl here) = found_inner place ancestors tag kids rest (has-left opens_number v (nodes_pieces shown facts (inside facts.hidden tag kids place) kids) (end_as facts.revisions (shape_of facts.hidden place tag kids) kids tag.kind) here)
      below (inr waits) = found_waiting place ancestors tag kids rest o fit.0 waits

      later : Found place ancestors rest → Found place ancestors (element tag kids rest)
      later (inl there) =
          inl (has-right opens_number v (element_pieces facts place tag kids (nodes_pieces shown facts (inside facts.hidden tag kids place) kids)) (nodes_pieces shown facts place rest) there)
      later (inr waits) = inr (waits_rest facts.revisions v ancestors tag kids rest waits)

      own_or_kids : ((is_member tag.kind && eqb tag.rev v) ≡ true) ⊎ (has_member v kids ≡ true) → (has_member v kids ≡ true → Found (inside facts.hidden tag kids place) (tag ∷ ancestors) kids) → Found place ancestors (element tag kids rest)
      own_or_kids (inl here) kid_found = let both = and_parts (is_member tag.kind) (eqb tag.rev v) here in found_here place ancestors tag kids rest tag.kind refl both.0 both.1 fit.0
      own_or_kids (inr kid) kid_found = below (kid_found kid)

      by : (((is_member tag.kind && eqb tag.rev v) || has_member v kids) ≡ true) ⊎ (has_member v rest ≡ true) → (has_member v kids ≡ true → Found (inside facts.hidden tag kids place) (tag ∷ ancestors) kids)
          → (has_member v rest ≡ true → Found place ancestors rest) → Found place ancestors (element tag kids rest)
      by (inl here) kid_found rest_found = own_or_kids (or_cases (is_member tag.kind && eqb tag.rev v) (has_member v kids) here) kid_found
      by (inr there) kid_found rest_found = later (rest_found there)

  -- ---- stories

  -- nothing waits right below the root of a story
  no_root : (root : Tag) → is_story_root root ≡ true → (is "p" root ≡ false) × (is "pPr" root ≡ false) × (is "rPr" root ≡ false)
  no_root root r =
      by_names (λ t. (is "p" t ≡ false) × (is "pPr" t ≡ false) × (is "rPr" t ≡ false)) ("document" ∷ "hdr" ∷ "ftr" ∷ "footnotes" ∷ "endnotes" ∷ "comments" ∷ []) root r
      ((refl, refl, refl), ((refl, refl, refl), ((refl, refl, refl), ((refl, refl, refl), ((refl, refl, refl), ((refl, refl, refl), tt))))))

  none_waits : (root : Tag) (nodes : Nodes) → is_story_root root ≡ true → Waits facts.revisions v (root ∷ []) nodes → ⊥
  none_waits root nodes r (in_run p h) = let e = (and_parts (is "rPr" root) (in_para_props []) p).0 in let f = (no_root root r).2 in cc
  none_waits root nodes r (in_para p h) = let e = (and_parts (is "pPr" root) (within ("p" ∷ []) []) p).0 in let f = (no_root root r).1 in cc
  none_waits root nodes r (in_kids p h) = let e = (and_parts (is "p" root) (is_open []) p).0 in let f = (no_root root r).0 in cc

  story-has : (story : Element) → IsStory story → has_member v story.kids ≡ true → has_element v (nodes_pieces shown facts in_story story.kids) ≡ true
  story-has story is h = at (found in_story (story.tag ∷ []) story.kids (sym (ap (λ q. not (q || false)) is.loud)) is.fits h)
    where
      at : Found in_story (story.tag ∷ []) story.kids → has_element v (nodes_pieces shown facts in_story story.kids) ≡ true
      at (inl here) = here
      at (inr waits) = absurd (none_waits story.tag story.kids is.root waits)

  section-has : (first : Bool) (name : List ℕ) (root : Element) → IsStory root → has_member v root.kids ≡ true → has_element v (section shown facts first name root.tag.local root.kids) ≡ true
  section-has first name root is h =
      let held = nodes_pieces shown facts in_story root.kids in
      let end : List HtmlPiece = own "</section>\n" ∷ [] in
      let heading = section_heading first name root.tag.local in
      has-right opens_number v (section_start name root.tag.local) (heading ++ (held ++ end))
      (has-right opens_number v heading (held ++ end) (has-left opens_number v held end (story-has root is h)))

  -- a story of this sort has a member of the revision
  abbrev Has : Bool → Element → Bool
  Has documents root = is_sort documents root && has_member v root.kids

  sections-have : (documents first : Bool) (parts : List Element) → AreStories (filter_map story_of parts) → list_any (Has documents) (filter_map story_of parts) ≡ true →
      has_element v (sections shown facts documents first parts) ≡ true
  sections-have documents first [] are h = cc
  sections-have documents first (part ∷ parts) are h = at (story_of part) are h (λ f. sections-have documents f parts)
    where
      at : (o : Option Element) → AreStories (cons_option o (filter_map story_of parts)) → list_any (Has documents) (cons_option o (filter_map story_of parts)) ≡ true →
          ((f : Bool) → AreStories (filter_map story_of parts) → list_any (Has documents) (filter_map story_of parts) ≡ true → has_element v (sections shown facts documents f parts) ≡ true) →
          has_element v (section_in shown facts documents first (name_in part.tag) o ++ sections shown facts documents (is_first_after documents first o) parts) ≡ true
      at None are h later = later first are h
      at (Some root) are h later = by (or_cases (Has documents root) _ h)
        where
          by : (Has documents root ≡ true) ⊎ (list_any (Has documents) (filter_map story_of parts) ≡ true) →
              has_element v (section_in shown facts documents first (name_in part.tag) (Some root) ++ sections shown facts documents (is_first_after documents first (Some root)) parts) ≡ true
          by (inl here) =
              let both = and_parts (is_sort documents root) (has_member v root.kids) here in
              has-left opens_number v (section_in shown facts documents first (name_in part.tag) (Some root)) (sections shown facts documents (is_first_after documents first (Some root)) parts)
              (rw both.0 (section-has first (name_in part.tag) root are.0 both.1))
          by (inr there) = has-right opens_number v (section_in shown facts documents first (name_in part.tag) (Some root)) (sections shown facts documents (is_first_after documents first (Some root)) parts) (later (is_first_after documents first (Some root)) are.1 there)

  -- a story is a document, or is none
  of_a_sort : (roots : List Element) → list_any (λ story. has_member v story.kids) roots ≡ true → (list_any (Has true) roots ≡ true) ⊎ (list_any (Has false) roots ≡ true)
  of_a_sort [] h = cc
  of_a_sort (root ∷ roots) h = by (is_sort true root) (has_member v root.kids) h (of_a_sort roots)
    where
      by : (document has : Bool) → (has || list_any (λ story. has_member v story.kids) roots) ≡ true →
          (list_any (λ story. has_member v story.kids) roots ≡ true → (list_any (Has true) roots ≡ true) ⊎ (list_any (Has false) roots ≡ true)) →
          (((document && has) || list_any (Has true) roots) ≡ true) ⊎ (((not document && has) || list_any (Has false) roots) ≡ true)
      by true true h later = inl refl
      by false true h later = inr refl
      by true false h later = later h
      by false false h later = later h

  stories-have : (nodes : Nodes) → AreStories (filter_map story_of (parts_of nodes)) → list_any (λ story. has_member v story.kids) (filter_map story_of (parts_of nodes)) ≡ true →
      has_element v (stories_pieces shown facts nodes) ≡ true
  stories-have nodes are h = by (of_a_sort (filter_map story_of (parts_of nodes)) h)
    where
      by : (list_any (Has true) (filter_map story_of (parts_of nodes)) ≡ true) ⊎ (list_any (Has false) (filter_map story_of (parts_of nodes)) ≡ true) →
          has_element v (stories_pieces shown facts nodes) ≡ true
      by (inl documents) =
          has-left opens_number v (sections shown facts true true (parts_of nodes)) (sections shown facts false false (parts_of nodes)) (sections-have true true (parts_of nodes) are documents)
      by (inr others) =
          has-right opens_number v (sections shown facts true true (parts_of nodes)) (sections shown facts false false (parts_of nodes)) (sections-have false false (parts_of nodes) are others)

-- each member of an indexed package has an element with its number
pub document-has : (shown : List ℕ → List ℕ) (revisions : List Revision) (value : Value) (nodes : Nodes) (v : ℕ) → refusal nodes ≡ None → IsIndexed value nodes →
    list_any (λ story. has_member v story.kids) (stories nodes) ≡ true → has_element v (document_pieces shown revisions nodes) ≡ true
document-has shown revisions value nodes v shape is h =
    stories-have shown (package_facts revisions nodes) v nodes
    (subst AreStories (sym (stories-parts nodes shape)) (indexed_stories value nodes is))
    (ap (list_any (λ story. has_member v story.kids)) (stories-parts nodes shape) ∙ h)
