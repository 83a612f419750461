use Rattle.std.proofs.Common.{drop, ap, ◌∙◌, arith}
use Rattle.std.proofs.lemmas.List.{take_rest}
use Rattle.grammar.specs.Parts.{forest}
use Rattle.grammar.proofs.Soundness.{healthy}
use Rattle.grammar.proofs.Rooting.{still_clean, refused_grows, fewer_small, reduced}
use Rattle.tables.specs.Nodes.{zero_node}
use Rattle.grammar.proofs.parser.Parser.reduce.Goals as goal

pub invariant_of-self : goal.invariant_of-self
invariant_of-self c =
    let p = c.args.self.now in
    let r = c.in_err-node.ensures in
    let few = p.few in
    record {
      names_clean = p.names_clean;
      kinds_clean = p.kinds_clean;
      nodes_clean = still_clean p.nodes.now c.complete.new.self zero_node r.told.kept p.nodes_clean;
      few = omega (arith, refused_grows c.args.class _ p.nodes.now c.complete.new.self _ r.told);
      small = p.small;
    }

pub invariant_of-self-2 : goal.invariant_of-self-2
invariant_of-self-2 c =
    let p = c.args.self.now in
    let row = take_rest c.as_slice.result.now c.args.from ∙ ap (drop c.args.from) c.as_slice.ensures.value in
    let r = c.in_ok-node.ensures in
    let h = reduced c.args.class c.args.from _ (forest p) (record { nodes = c.complete.new.self; roots = c.truncate.new.self.items }) c.in_ok-node.node (healthy p) c.requires row c.truncate.ensures.items r.told r.loan in
    record {
      names_clean = p.names_clean;
      kinds_clean = p.kinds_clean;
      nodes_clean = still_clean p.nodes.now c.complete.new.self zero_node r.told.kept p.nodes_clean;
      few = omega (arith, h.own);
      small = fewer_small c.args.from p.waiting.items c.truncate.new.self.items c.truncate.ensures.items p.small;
    }
