pub mod PlayedLaws
