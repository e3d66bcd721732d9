pub mod LayLaws
