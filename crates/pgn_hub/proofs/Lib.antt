pub mod CallLaws
pub mod FloorLaws
pub mod SeatLaws
pub mod WithinLaws
pub mod GatheredLaws
