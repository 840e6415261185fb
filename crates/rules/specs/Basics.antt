-- Tests and lists, as the rules use them.
pub use Rattle.rules_basics.specs.Basics.{pick, any, all, first, only, every, ◌⊃◌, is_some, is_none, holds, or_none, or_else, same_numbers, twice, sum, yes_no, one, last}
