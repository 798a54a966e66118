-- Where nodes stand, as far as hidden text asks for it.
use Rattle.std.specs.Prelude.{◌&&◌, ◌||◌, not, Bool, true, false, if◌then◌else◌}
use Rattle.redl_tree.specs.Model.Nodes.{Tag, Nodes}
use Rattle.redl_tree.specs.Roles.Names.{is}
use Rattle.redl_tree.specs.Roles.Places.{is_quiet}
use Rattle.redl_said.specs.Said.{holds_text}
use Rattle.redl_hidden.specs.Runs.{mark_hides, paragraph_hides, run_hides}
use Rattle.redl_hidden.specs.Styles.{HiddenStyles}
use Rattle.redl_hidden_members.specs.declared.around.Around.{Around}

-- the kids of a story's root
abbrev pub start : Around
start = record { paragraph = false; mark = false; in_mark = false; of_run = false; run = false; loud = true; text = false }

-- the kids of a paragraph: in a hidden run, as in a text box there, its mark is hidden too
abbrev pub in_paragraph : HiddenStyles → Around → Nodes → Around
in_paragraph styles at kids = record {
  paragraph = paragraph_hides styles kids;
  mark = at.run || mark_hides styles (paragraph_hides styles kids) kids;
  in_mark = false;
  of_run = false;
  run = at.run;
  loud = at.loud;
  text = false;
}

-- the kids of a run, which is hidden or not; all in a hidden run is hidden
abbrev pub in_run : Around → Bool → Around
in_run at hidden = record { paragraph = at.paragraph; mark = at.mark; in_mark = false; of_run = true; run = at.run || hidden; loud = at.loud; text = false }

-- the kids of any other element: the properties of a mark are in the `rPr` of a `pPr`, those of a run in its `rPr`
abbrev pub in_other : Around → Tag → Around
in_other at tag = record {
  paragraph = at.paragraph;
  mark = at.mark;
  in_mark = if is "pPr" tag then at.mark else (is "rPr" tag && at.in_mark);
  of_run = is "rPr" tag && at.of_run;
  run = at.run;
  loud = at.loud && not (is_quiet tag);
  text = holds_text tag;
}

abbrev pub inside : HiddenStyles → Around → Tag → Nodes → Around
inside styles at tag kids =
    if is "p" tag then in_paragraph styles at kids
    else if is "r" tag then in_run at (run_hides styles at.paragraph kids)
    else in_other at tag
