pub mod JournalLines
pub mod ItemKinds
pub mod ItemLines
pub mod TraceLines
pub mod SpentLaws
pub mod ShortLaws
pub mod TextLaws
pub mod ExampleLaws
