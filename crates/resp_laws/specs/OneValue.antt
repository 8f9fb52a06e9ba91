-- What impls of `SingleValued` cite.
pub use Rattle.resp_laws.specs.Laws.{result_seen}
pub use Rattle.resp_laws.specs.lemmas.Tuples.{last_one, one_and, one_tuple}
pub use Rattle.resp_laws.specs.lemmas.Via.{one_via}
pub use Rattle.resp_types.specs.OneValue.{GoesBySeen, IsSingleValued, pair_seen}
pub use Rattle.resp_types.specs.lemmas.Scalars.{one_signed, one_string, one_truth, one_unsigned}
