-- The proofs. `Theorems` lists what is proved; the rest is how: laws (`Sorted`, `ObjectLaws`, `StoreLaws`, `Accepted`),
-- terms 1 and 2 (`Refusals`, `StepTable`, `Boosting`, `Plain`), term 3 (`Trace`, `Invariant`, `Stepping`, `Unwinding`,
-- `Recovering`, `Term3`), what stepping keeps (`Slots`, `Keeping`, `Sound`), and the lock listing (`Listing`). Before
-- all of them the acceptance tests are computed (`Acceptance`).
pub mod Acceptance
pub mod Accepted
pub mod Boosting
pub mod Invariant
pub mod Keeping
pub mod Listing
pub mod ObjectLaws
pub mod Plain
pub mod Recovering
pub mod Refusals
pub mod Slots
pub mod Sorted
pub mod Sound
pub mod StepTable
pub mod Stepping
pub mod StoreLaws
pub mod Term3
pub mod Theorems
pub mod Trace
pub mod Unwinding
