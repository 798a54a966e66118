use Rattle.redl_commands_list.proofs.PartNameLaws.{names_more, all_more}
use Rattle.redl_commands_shown.specs.List.{part_names}
use Rattle.redl_commands_list.proofs.list.part_names.Goals as goal

pub loop-part-preserved : goal.loop-part-preserved
loop-part-preserved c =
    let name = c.part_name.result.now in
    record {
      names = names_more (part_names c.args.pkg.now) c.loop-part.names.items c.push.new.self.items c.loop-part.part name c.in_ok-copy_of.field-0
          c.loop-part.invariant.names c.part_name.ensures.value c.in_ok-copy_of.ensures c.in_ok-push.ensures.items;
      utf8 = all_more c.loop-part.names.items c.push.new.self.items name c.in_ok-copy_of.field-0
          c.loop-part.invariant.utf8 c.part_name.ensures.utf8 c.in_ok-copy_of.ensures c.in_ok-push.ensures.items;
    }
