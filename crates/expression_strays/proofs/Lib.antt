pub mod StrayLaws
