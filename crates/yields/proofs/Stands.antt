-- The statements of specs/Statements.antt, proved.
use Rattle.std.proofs.Common.{ℕ, List}
use Rattle.tree.specs.declared.node.Node.{Node}
use Rattle.yields.specs.Weighing.{Weighing, Laws}
use Rattle.yields.specs.Marks.{first, ending}
use Rattle.yields.specs.WellFormed.{WellFormed}
use Rattle.yields.specs.Statements.{Climbs, WeighingsClimb, AnalysisRight, AnalysisStands}
use Rattle.yields.proofs.Kleene.{rising_start, rising_replace, replace_falls, stable_least, reached_least, rounds_least, least_same}
use Rattle.yields.proofs.Laws.{ending_laws, first_laws}
use Rattle.yields.proofs.Ends.{ends_productive, productive_ends}
use Rattle.yields.proofs.Firsts.{first_means, first_nulls, starts_first, nullable_first}
use Rattle.yields.proofs.Contexts.{after_follow, met_sentence}
use Rattle.yields.proofs.Follows.{nodes_productive, nodes_reachable, follow_after}
use Rattle.yields.proofs.Passes.{passing_means, means_passing}
use Rattle.yields.proofs.Predicting.{predicts}
use Rattle.yields.proofs.Depth.{runs_short}
use Rattle.yields.proofs.Slots.{holds_follow}
use Rattle.yields.proofs.Unambiguity.{unambiguous}

pub climbs : {V : Type 0} (w : Weighing V) → Laws w → (ns : List Node) (rs : List ℕ) → WellFormed ns rs → Climbs w ns rs
climbs w laws ns rs formed = record {
  begins = rising_start w laws ns rs formed;
  keeps = rising_replace w laws ns rs formed;
  falls = replace_falls w laws ns rs formed;
  ends = stable_least w laws ns rs formed;
  in_any_order = reached_least w laws ns rs formed;
  enough_rounds = rounds_least w laws ns rs formed;
  just_one = λ f g a b n r. least_same w laws ns rs formed a b n r;
}

pub weighings_climb : WeighingsClimb
weighings_climb V w laws ns rs formed = climbs w laws ns rs formed

pub analysis_right : (ns : List Node) (rs : List ℕ) → WellFormed ns rs → AnalysisRight ns rs
analysis_right ns rs formed = record {
  climb = record { ending_laws = ending_laws; ending_climbs = climbs ending ending_laws ns rs formed; first_laws = first_laws; first_climbs = climbs first first_laws ns rs formed };
  ends = λ f least. record { at = λ n r. (ends_productive ns rs formed f least n r, productive_ends ns rs formed f least n r) };
  first_covers = λ f solves. record { kinds = λ n k r s. starts_first ns rs formed f solves n k r s; nulls = λ n r s. nullable_first ns rs formed f solves n r s };
  empty_right = λ f least. record { at = λ n r. (first_nulls ns rs formed f least n r, λ s. nullable_first ns rs formed f least.solves n r s) };
  first_right = λ yielding f least. record { at = λ n k r q. ((first_means ns rs formed (nodes_productive ns rs formed yielding) f least n r).kinds k q, λ s. (starts_first ns rs formed f least.solves n k r s).1) };
  follow_covers = λ f solves. record { at = λ n m a. after_follow ns rs formed f solves n m a };
  follow_right = λ forest yielding reached f least. record {
    at = λ n m. (follow_after ns rs formed (nodes_productive ns rs formed yielding) forest (nodes_reachable ns rs formed forest reached) f least n m, after_follow ns rs formed f least.solves n m);
  };
  sentences = record { at = λ n v before after cs ks m y. met_sentence ns rs m y };
  predicts = λ f least passing. predicts ns rs formed f least passing;
  unambiguous = λ f least passing. unambiguous ns rs formed f least passing;
  shallow = λ f passing. runs_short ns rs formed f passing.straight;
  slots = λ f g fed sound. holds_follow ns rs f g fed sound;
  passing = λ forest f least. (passing_means ns rs formed forest f least, means_passing ns rs formed forest f least);
}

pub analysis_stands : AnalysisStands
analysis_stands ns rs formed = analysis_right ns rs formed
