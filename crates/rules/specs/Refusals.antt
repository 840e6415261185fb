-- Document 01's refusals, with document 02's. Their numbers stand with the types, where the code has them too.
pub use Rattle.rules_types.specs.Refusals.{number, number_within, refusal_exact}
pub use Rattle.rules_types.specs.declared.refusal.Refusal.{Refusal}
pub use Rattle.rules_types.specs.declared.refusal.Refusal.TheVariants.{Unknown, Retired, InvalidState, BadRealms, TooManyKeys, DuplicateDependency, DuplicateProvision, Taken, NoId}
pub use Rattle.rules_types.specs.declared.refusal.Refusal.TheVariants.{Full, TooLong, NoRows, Stale, Unavailable, InUse, Exhausted, NotRun, HasChildren}
pub use Rattle.rules_types.specs.declared.refusal.Refusal.TheVariants.{Closed, Undeclared, Duplicate, Missing, ShortBuffer, BadText, SameDomain, BadEdition, Repeated}
