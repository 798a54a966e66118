-- Each member among the units of a package is of a kind that has a line.
use Rattle.std.proofs.Common.{◌≡◌, List, [], ◌∷◌, ◌++◌, Bool, true, false, ◌&&◌, refl, if◌then◌else◌}
use Rattle.std.specs.List.{flat_map}
use Rattle.redl_tree.specs.Model.Nodes.{Tag, Nodes, no_nodes, bytes, element}
use Rattle.redl_tree.specs.Model.View.{Element}
use Rattle.redl_tree.specs.Roles.Names.{is}
use Rattle.redl_order.specs.Order.{ordered}
use Rattle.redl_bare.specs.Marks.{Marks, stamp_in, no_marks, marks_inside}
use Rattle.redl_bare.specs.Units.{Text, BareUnit, text, thing, member, story, in_marks, has_line, is_left_out, is_open_place, place_inside, start_texts, end_texts, start_things, member_units, open_units, start_units, end_things, end_units, byte_texts, units_in, root_units, story_units}
use Rattle.redl_bare.specs.Fields.{Fields, no_field, after_text, is_shown, uncounted}
use Rattle.redl_bare.specs.Package.{package_units}
use Rattle.redl_bare.specs.declared.place.BarePlace.{BarePlace}
use Rattle.redl_bare.specs.declared.place.BarePlace.TheVariants.{Open, InText, InRun, InField, Quiet, Silent}
use Rattle.redl_bare.specs.declared.units.Thing.TheVariants.{Paragraph, Row, Cell}
use Rattle.redl_bare.specs.declared.units.Story.TheVariants.{Document, Header, Footer, Footnote, Endnote}
use Rattle.redl_bare_sound.specs.Said.{AreNamed}

and_then : (xs ys : List BareUnit) → AreNamed xs → AreNamed ys → AreNamed (xs ++ ys)
and_then [] ys a b = b
and_then (x ∷ xs) ys a b = (a.0, and_then xs ys a.1 b)

texts_named : (marks : Marks) (texts : List Text) → AreNamed (in_marks marks texts)
texts_named marks [] = tt
texts_named marks (t ∷ ts) = (refl, texts_named marks ts)

choice : (b : Bool) (xs ys : List BareUnit) → AreNamed xs → AreNamed ys → AreNamed (if b then xs else ys)
choice true xs ys a b = a
choice false xs ys a b = b

things_named : (marks : Marks) (tag : Tag) → AreNamed (start_things marks tag)
things_named marks tag =
    choice (is "tr" tag) (thing marks Row ∷ []) _ (refl, tt)
    (choice (is "tc" tag) (thing marks Cell ∷ []) _ (refl, tt)
    (choice (is_left_out tag) [] _ tt
    (choice (is "footnote" tag) (story Footnote ∷ []) _ (refl, tt)
    (choice (is "endnote" tag) (story Endnote ∷ []) [] (refl, tt) tt))))

member_named : (tag : Tag) → AreNamed (member_units tag)
member_named tag = at (has_line tag.kind) refl
  where
    at : (b : Bool) → has_line tag.kind ≡ b → AreNamed (if b then member tag.kind (stamp_in tag.tail) ∷ [] else [])
    at true e = (e, tt)
    at false e = tt

open_named : (marks : Marks) (tag : Tag) → AreNamed (open_units marks tag)
open_named marks tag = and_then (in_marks marks (start_texts tag)) (start_things marks tag) (texts_named marks (start_texts tag)) (things_named marks tag)

start_named : (place : BarePlace) (marks : Marks) (tag : Tag) → AreNamed (start_units place marks tag)
start_named Silent marks tag = tt
start_named Quiet marks tag = member_named tag
start_named InRun marks tag = open_named marks tag
start_named InText marks tag = open_named marks tag
start_named InField marks tag = open_named marks tag
start_named Open marks tag = open_named marks tag

end_named : (place : BarePlace) (marks : Marks) (tag : Tag) → AreNamed (end_units place marks tag)
end_named place marks tag =
    let texts = end_texts (place_inside place tag) in
    and_then (in_marks marks texts) (end_things place marks tag) (texts_named marks texts)
    (choice (is_open_place place && is "p" tag) (thing marks Paragraph ∷ []) [] (refl, tt) tt)

units_named : (place : BarePlace) (marks : Marks) (nodes : Nodes) → AreNamed (units_in place marks nodes)
units_named place marks no_nodes = tt
units_named place marks (bytes b rest) =
    and_then (in_marks marks (byte_texts place b)) (units_in place marks rest) (texts_named marks (byte_texts place b)) (units_named place marks rest)
units_named place marks (element tag kids rest) =
    let inner = units_in (place_inside place tag) (marks_inside marks tag kids) kids in
    let ends = end_units place marks tag in
    let starts = start_units place marks tag in
    and_then (starts ++ (inner ++ ends)) (units_in place marks rest)
    (and_then starts (inner ++ ends) (start_named place marks tag)
    (and_then inner ends (units_named (place_inside place tag) (marks_inside marks tag kids) kids) (end_named place marks tag)))
    (units_named place marks rest)

root_named : (tag : Tag) → AreNamed (root_units tag)
root_named tag =
    choice (is "document" tag) (story Document ∷ []) _ (refl, tt)
    (choice (is "hdr" tag) (story Header ∷ []) _ (refl, tt)
    (choice (is "ftr" tag) (story Footer ∷ []) [] (refl, tt) tt))

story_named : (root : Element) → AreNamed (story_units root)
story_named root =
    let nodes = element root.tag root.kids no_nodes in
    and_then (root_units root.tag) (units_in Open no_marks nodes) (root_named root.tag) (units_named Open no_marks nodes)

stories_named : (roots : List Element) → AreNamed (flat_map story_units roots)
stories_named [] = tt
stories_named (root ∷ roots) = and_then (story_units root) (flat_map story_units roots) (story_named root) (stories_named roots)

-- and none is found anew where results are left out
uncounted_named : (f : Fields) (units : List BareUnit) → AreNamed units → AreNamed (uncounted f units)
uncounted_named f [] a = tt
uncounted_named f (text marks t ∷ units) a =
    and_then (if is_shown f t then text marks t ∷ [] else []) (uncounted (after_text f t) units)
    (choice (is_shown f t) (text marks t ∷ []) [] (refl, tt) tt)
    (uncounted_named (after_text f t) units a.1)
uncounted_named f (thing marks t ∷ units) a = (refl, uncounted_named f units a.1)
uncounted_named f (member kind stamp ∷ units) a = (a.0, uncounted_named f units a.1)
uncounted_named f (story s ∷ units) a = (refl, uncounted_named no_field units a.1)

pub package_named : (nodes : Nodes) → AreNamed (package_units nodes)
package_named nodes = uncounted_named no_field (flat_map story_units (ordered nodes)) (stories_named (ordered nodes))
