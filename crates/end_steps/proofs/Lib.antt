pub mod RejectionLemmas
pub mod FallLemmas
pub mod FailLemmas
pub mod ReturnLemmas
pub mod RenamingLemmas
pub mod DeliveryRefusalLemmas
pub mod PlanLemmas
