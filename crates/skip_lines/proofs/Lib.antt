pub mod SkippingLaws
