mod StationLaws
mod FurnishLaws
mod ClosingLaws
