use Rattle.std.proofs.Common.{arith, refl}
use Rattle.grammar.specs.Parts.{forest}
use Rattle.grammar.specs.declared.refusal.Refusal.TheVariants.{NodesFull}
use Rattle.grammar.proofs.Finishing.{passed_on}
use Rattle.grammar.proofs.Soundness.{healthy}
use Rattle.grammar.proofs.Rooting.{made_grows, made_clean, made_one, made_none}
use Rattle.grammar.proofs.parser.Parser.leaf.Goals as goal

pub returns-in_err-node : goal.returns-in_err-node
returns-in_err-node c =
    passed_on c.from_residual.result (NodesFull c.in_err-node.field-0.0.limit) _ _ c.from_residual.ensures.1
    (record { full = c.in_err-node.field-0.0; told = refl; none = made_none (forest c.args.self.now) _ c.in_err-node.field-0.0 c.in_err-node.ensures.told; beside = refl })

pub returns : goal.returns
returns c = record {
  made = made_one _ _ _ (forest c.args.self.now) _ c.in_ok-node.node (healthy c.args.self.now) refl c.in_ok-node.ensures.told c.in_ok-node.ensures.loan;
  went = c.advance.ensures;
  beside = refl;
}

pub invariant_of-self-2 : goal.invariant_of-self-2
invariant_of-self-2 c =
    let p = c.args.self.now in
    let few = p.few in
    record {
      names_clean = p.names_clean;
      kinds_clean = p.kinds_clean;
      nodes_clean = made_clean c.args.class c.args.value 1024 p.nodes.now c.make.new.self c.make.result c.make.ensures.told p.nodes_clean;
      few = omega (arith, made_grows c.args.class c.args.value 1024 p.nodes.now c.make.new.self c.make.result c.make.ensures.told);
      small = p.small;
    }
