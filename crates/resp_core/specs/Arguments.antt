-- What the contracts of arguments cite, given out for the crates of users.
pub use Rattle.resp_args.specs.Args.{Args, args_of, extended, Appends, Writes, GivesOne, GivesEach, GivesPair}
pub use Rattle.resp_args.specs.Args.{Never, IsRefusal, Failure, AnyFailure, IsFailure}
pub use Rattle.resp_args.specs.Args.{Slices, by_item, by_rule}
pub use Rattle.resp_args.specs.Joined.{ExtendedInPart}
pub use Rattle.resp_args.specs.Kept.{Kept, Stays, nothing}
pub use Rattle.resp_args.specs.Comparisons.{ComparesBy, IsArgText}
pub use Rattle.resp_args.specs.SingleArg.{IsSingle, one_argument, single_through}
