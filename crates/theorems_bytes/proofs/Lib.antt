pub mod Behind
pub mod PrgLaws
pub mod ChrLaws
pub mod NameLaws
pub mod ExRamLaws
