-- `kernel_cases::model_case` is safe: product, Cauchy point and target are made with one model, which stays. Assumes nothing.
use borrow.Author.Rules.{rules}
use Rattle.compact.proofs.Models.{modelled_kept, prepared}
use Rattle.kernel_cases.proofs.model_case.Goals as goal

pub product-made-requires : goal.product-made-requires
product-made-requires c = (search rules, prepared c.build.ensures.0.is, search rules, search rules)

pub generalized_cauchy-reached-requires : goal.generalized_cauchy-reached-requires
generalized_cauchy-reached-requires c = (search rules, prepared c.build.ensures.0.is, search rules)

pub primal_minimize-made-requires : goal.primal_minimize-made-requires
primal_minimize-made-requires c = (search rules, modelled_kept _ c.generalized_cauchy-reached.ensures.kept.high c.build.ensures.0.is)
