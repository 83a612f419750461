use Rattle.std.proofs.Common.{arith}
use Rattle.grammar.proofs.Rooting.{made_grows, made_clean}
use Rattle.grammar.proofs.parser.Parser.bracketed.Goals as goal
use Rattle.tree.specs.declared.class.Class.TheVariants.{Optional, Repetition}

pub invariant_of-self : goal.invariant_of-self
invariant_of-self c =
    let p = c.args.self.now in
    let few = p.few in
    record {
      names_clean = p.names_clean;
      kinds_clean = p.kinds_clean;
      nodes_clean = made_clean Optional 0 c.args.inside p.nodes.now c.make.new.self c.make.result c.make.ensures.told p.nodes_clean;
      few = omega (arith, made_grows Optional 0 c.args.inside p.nodes.now c.make.new.self c.make.result c.make.ensures.told);
      small = p.small;
    }

pub invariant_of-self-in-Curly-1 : goal.invariant_of-self-in-Curly-1
invariant_of-self-in-Curly-1 c =
    let p = c.args.self.now in
    let made = c.make-in-Some-Curly in
    let few = p.few in
    record {
      names_clean = p.names_clean;
      kinds_clean = p.kinds_clean;
      nodes_clean = made_clean Repetition 0 c.args.inside p.nodes.now made.new.self made.result made.ensures.told p.nodes_clean;
      few = omega (arith, made_grows Repetition 0 c.args.inside p.nodes.now made.new.self made.result made.ensures.told);
      small = p.small;
    }
